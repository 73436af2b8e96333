-- Bytes that are a text, or none; and pieces of a text, one after another.
use Rattle.std.proofs.Common.{◌≡◌, ◌∙◌, ◌++◌, ap, sym, refl, append_assoc, ℕ, List, Bool, true, false, cond}
use Rattle.std.specs.Str.{IsUtf8, is_utf8}
use Rattle.std.proofs.lemmas.Str.{IsUtf8-from_is_utf8, is_utf8-from_IsUtf8}

module _ {X : Type 0} (bytes : List ℕ) (x y : X) where
  pub text_is : IsUtf8 bytes → x ≡ cond (is_utf8 bytes) x y
  text_is is = sym (ap (λ b. cond b x y) (is_utf8-from_IsUtf8 bytes is))

  pub no_text : (IsUtf8 bytes → ⊥) → y ≡ cond (is_utf8 bytes) x y
  no_text none = go (is_utf8 bytes) refl
    where
      go : (b : Bool) → is_utf8 bytes ≡ b → y ≡ cond b x y
      go true is = absurd (none (IsUtf8-from_is_utf8 bytes is))
      go false is = refl

pub four_pieces : (old a b c d : List ℕ) → (((old ++ a) ++ b) ++ c) ++ d ≡ old ++ (a ++ (b ++ (c ++ d)))
four_pieces old a b c d = append_assoc ((old ++ a) ++ b) c d ∙ (append_assoc (old ++ a) b (c ++ d) ∙ append_assoc old a (b ++ (c ++ d)))
