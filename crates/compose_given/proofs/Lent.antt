-- References in an option, and the values that they point to.
use Rattle.std.proofs.Common.{◌≡◌, ◌∙◌, refl, ap, ℕ, List, [], map, Bor}
use Rattle.std.specs.Prelude.{Option, Some, None, option_copied, unwrap_or}
use Rattle.std.specs.Option.{option_or, option_map}

module _ {X : Type 0} where
  -- the value of the first of two options
  pub copied_or : (a b : Option (Bor X)) → option_copied (option_or a b) ≡ option_or (option_copied a) (option_copied b)
  copied_or None b = refl
  copied_or (Some x) b = refl

  -- the value of an option, or that of its default
  pub now_unwrap_or : (a : Option (Bor X)) (d : Bor X) → (unwrap_or a d).now ≡ unwrap_or (option_copied a) d.now
  now_unwrap_or None d = refl
  now_unwrap_or (Some x) d = refl

  -- the value of the first of two options, or that of a default for both
  pub now_or : (r : Bor X) (o a b : Option (Bor X)) (d : Bor X) → r ≡ unwrap_or o d → o ≡ option_or a b
      → r.now ≡ unwrap_or (option_or (option_copied a) (option_copied b)) d.now
  now_or r o a b d e f = ap (λ (x : Bor X). x.now) e ∙ (now_unwrap_or o d ∙ ap (λ (x : Option X). unwrap_or x d.now) (ap option_copied f ∙ copied_or a b))

-- the values of names in an option, or none
pub names_or_none : (allowed : Option (Bor (List (Bor (List ℕ))))) (none : Bor (List (Bor (List ℕ)))) → none.now ≡ []
    → map (λ name. name.now) (unwrap_or allowed none).now ≡ unwrap_or (option_map (λ (names : Bor (List (Bor (List ℕ)))). map (λ name. name.now) names.now) allowed) []
names_or_none None none e = ap (map (λ (name : Bor (List ℕ)). name.now)) e
names_or_none (Some names) none e = refl
