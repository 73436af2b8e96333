-- What is read at the beginning of the rest of a line, step by step.
use Rattle.std.proofs.Common.{◌≡◌, ℕ, zero, suc, ◌-◌, ◌<◌, Bool, true, false, List, [], ◌∷◌, length, take, drop, cond, refl, sym, ◌∙◌, ap, arith}
use Rattle.std.specs.List.{prefix_len}
use Rattle.std.proofs.lemmas.List.{length-drop, take_all}
use Rattle.compose_lex.proofs.Scans.{prefix_taken, after_left}
use Rattle.std.specs.Str.{IsUtf8, IsAscii}
use Rattle.std.proofs.lemmas.Str.{IsUtf8-from_ascii}
use Rattle.std.proofs.lemmas.Str.Ascii.{IsAscii-nil}
use Rattle.std.proofs.lemmas.Bool.Decides.{nat_tests}
use Rattle.compose_text.specs.Bytes.{is_name_byte, leading, behind}
use Rattle.compose_xkbcommon.specs.Grammar.{is_space, skip_spaces}

-- a blank is passed over
pub space_more : (bytes : List ℕ) (b : ℕ) (behind start : List ℕ) → bytes ≡ b ∷ behind → is_space b ≡ true → skip_spaces bytes ≡ skip_spaces start → skip_spaces behind ≡ skip_spaces start
space_more bytes b behind start e h i = sym (ap skip_spaces e ∙ ap (λ c. cond c (skip_spaces behind) (b ∷ behind)) h) ∙ i

-- and ends at another byte
pub space_end : (bytes : List ℕ) (b : ℕ) (behind start : List ℕ) → bytes ≡ b ∷ behind → is_space b ≡ false → skip_spaces bytes ≡ skip_spaces start → bytes ≡ skip_spaces start
space_end bytes b behind start e h i = e ∙ sym (ap skip_spaces e ∙ ap (λ c. cond c (skip_spaces behind) (b ∷ behind)) h) ∙ i

-- a byte of a name is ASCII
ascii_byte : (b : ℕ) → is_name_byte b ≡ true → b < 128
ascii_byte b h = grind (arith, nat_tests)

ascii_more : (b : ℕ) (bytes : List ℕ) → b < 128 → IsAscii bytes → IsAscii (b ∷ bytes)
ascii_more b bytes l h zero = l
ascii_more b bytes l h (suc i) = h i

ascii_name : (bytes : List ℕ) → IsAscii (leading is_name_byte bytes)
ascii_name [] = IsAscii-nil
ascii_name (b ∷ bytes) = go (is_name_byte b) refl (ascii_name bytes)
  where
    go : (x : Bool) → is_name_byte b ≡ x → IsAscii (leading is_name_byte bytes) → IsAscii (cond x (b ∷ leading is_name_byte bytes) [])
    go true e h = ascii_more b (leading is_name_byte bytes) (ascii_byte b e) h
    go false e h = IsAscii-nil

-- so the bytes of a name are a text
pub name_utf8 : (bytes : List ℕ) → IsUtf8 (leading is_name_byte bytes)
name_utf8 bytes = IsUtf8-from_ascii (leading is_name_byte bytes) (ascii_name bytes)

-- the bytes that are counted are the name, and the others are the rest
pub name_is : (len : ℕ) (bytes : List ℕ) → len ≡ prefix_len is_name_byte bytes → take len bytes ≡ leading is_name_byte bytes
name_is len bytes e = ap (λ n. take n bytes) e ∙ sym (prefix_taken is_name_byte bytes)

pub rest_is : (len : ℕ) (bytes : List ℕ) → len ≡ prefix_len is_name_byte bytes → take (length bytes - len) (drop len bytes) ≡ behind is_name_byte bytes
rest_is len bytes e =
    let long = length-drop len bytes in
    take_all (length bytes - len) (drop len bytes) (omega (arith, long)) ∙ ap (λ n. drop n bytes) e ∙ sym (after_left is_name_byte bytes)
