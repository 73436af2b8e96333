-- A text is in normal form C if and only if its bytes are those of its normal form.
use Rattle.std.proofs.Common.{◌≡◌, ◌∙◌, ℕ, List, Bool, true, false, encode_utf8_all, refl, sym, ap}
use Rattle.std.specs.Prelude.{◌↔◌, IsTrue, Result, Ok, Err, IfOk, chars}
use Rattle.std.specs.Str.{IsUtf8}
use Rattle.std.specs.Cmp.Lexicographic.{bytes_decides}
use Rattle.std.specs.declared.alloc.AllocError.{AllocError}
use Rattle.std.proofs.lemmas.Str.{encodes_same, encodes-chars}
use Rattle.unicode_normalization.specs.Forms.{Nfc, IsInForm, nfc}
use Rattle.compose_lint.specs.Texts.{is_normal}

same_truth : (a b : Bool) → (a ≡ true → b ≡ true) → (b ≡ true → a ≡ true) → a ≡ b
same_truth true b there back = sym (there refl)
same_truth false true there back = back refl
same_truth false false there back = refl

module _ (text : List ℕ) (u : IsUtf8 text) where
  in_form : IsInForm Nfc (chars text) → is_normal text ≡ true
  in_form same = (bytes_decides (encode_utf8_all (nfc (chars text))) text).1 (ap encode_utf8_all same ∙ encodes-chars text u)

  from_form : is_normal text ≡ true → IsInForm Nfc (chars text)
  from_form is = encodes_same (nfc (chars text)) (chars text) ((bytes_decides (encode_utf8_all (nfc (chars text))) text).0 is ∙ sym (encodes-chars text u))

  pub as_in_form : (r : Result Bool AllocError) → IfOk r (λ b. IsTrue b ↔ IsInForm Nfc (chars text)) → IfOk r (λ b. b ≡ is_normal text)
  as_in_form (Ok b) h = same_truth b (is_normal text) (λ e. in_form (h.0 e)) (λ e. h.1 (from_form e))
  as_in_form (Err e) h = h
