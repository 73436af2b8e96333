-- A raw text without a backslash is the text that it stands for.
use Rattle.std.proofs.Common.{◌≡◌, ◌∙◌, ℕ, ◌<◌, ◌≤◌, true, not, List, length, sym, ap, arith}
use Rattle.std.specs.Prelude.{◌==◌, ◌&&◌, nat_lt, nat_le, Some, Ok}
use Rattle.std.specs.List.{list_any}
use Rattle.std.specs.Result.{result_ok}
use Rattle.std.specs.Str.{IsUtf8}
use Rattle.std.proofs.lemmas.Bool.{and_parts, not-true, ltb-true, leb-true}
use Rattle.compose_lex.specs.Escape.{text_of}
use Rattle.compose_lex.specs.Steps.{len_check}
use Rattle.compose_lex.proofs.TextChecks.{text_without_escapes, right_text}

fits : (n : ℕ) → 0 < n → n ≤ 255 → len_check n ≡ Ok tt
fits n some few = grind (arith, some, few)

pub plain_text : (raw : List ℕ) → ((nat_lt 0 (length raw) && nat_le (length raw) 255) && not (list_any (λ b. b == 92) raw)) ≡ true → IsUtf8 raw → Some raw ≡ result_ok (text_of raw)
plain_text raw plain utf8 =
    let parts = and_parts (nat_lt 0 (length raw) && nat_le (length raw) 255) (not (list_any (λ b. b == 92) raw)) plain in
    let both = and_parts (nat_lt 0 (length raw)) (nat_le (length raw) 255) parts.0 in
    sym (ap result_ok (text_without_escapes raw (not-true (list_any (λ b. b == 92) raw) parts.1)
    ∙ right_text raw tt (fits (length raw) (ltb-true 0 (length raw) both.0) (leb-true (length raw) 255 both.1)) utf8))
