-- Texts that are appended one after another.
use Rattle.std.proofs.Common.{◌≡◌, ◌∙◌, ℕ, List, ◌++◌, ap}
use Rattle.std.specs.Prelude.{Result, Ok, Err, OnOk}
use Rattle.std.proofs.lemmas.List.{append_assoc}

pub four : (a b c d e v w x y : List ℕ) → b ≡ a ++ v → c ≡ b ++ w → d ≡ c ++ x → e ≡ d ++ y → e ≡ a ++ (v ++ (w ++ (x ++ y)))
four a b c d e v w x y first second third fourth =
    fourth ∙ ap (λ t. t ++ y) (third ∙ ap (λ t. t ++ x) (second ∙ ap (λ t. t ++ w) first))
    ∙ append_assoc ((a ++ v) ++ w) x y ∙ append_assoc (a ++ v) w (x ++ y) ∙ append_assoc a v (w ++ (x ++ y))

-- another property, if there is a value
pub on_map : {X E : Type 0} (P Q : Type 0) (r : Result X E) → (P → Q) → OnOk r P → OnOk r Q
on_map P Q (Ok x) f h = f h
on_map P Q (Err e) f h = tt
