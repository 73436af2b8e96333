-- One line of a header.
use Rattle.std.proofs.Common.{◌≡◌, ℕ, Bool, true, false, cond, List, refl, ap}
use Rattle.std.specs.Prelude.{Err}
use Rattle.std.specs.Str.{is_utf8, IsUtf8}
use Rattle.std.proofs.lemmas.Str.{IsUtf8-from_is_utf8, is_utf8-from_IsUtf8}
use Rattle.keysym_core.specs.Names.{KeysymNames}
use Rattle.keysym_core.specs.Header.{with_line, with_text}
use Rattle.keysym_core.specs.declared.fault.NameFault.TheVariants.{NotUtf8}

-- a line that is UTF-8 has the result of its text, and any other is faulty
pub line-text : (names : KeysymNames) (n : ℕ) (line : List ℕ) → IsUtf8 line → with_line names n line ≡ with_text names n line
line-text names n line h = ap (λ b. cond b (with_text names n line) (Err (NotUtf8 n))) (is_utf8-from_IsUtf8 line h)

-- a line that is not UTF-8 has the fault with its number
pub line-not_utf8 : (names : KeysymNames) (n : ℕ) (line : List ℕ) → ¬ (IsUtf8 line) → with_line names n line ≡ Err (NotUtf8 n)
line-not_utf8 names n line h = by (is_utf8 line) refl
  where
    by : (b : Bool) → is_utf8 line ≡ b → with_line names n line ≡ Err (NotUtf8 n)
    by true e = absurd (h (IsUtf8-from_is_utf8 line e))
    by false e = ap (λ b. cond b (with_text names n line) (Err (NotUtf8 n))) e
