-- A text to which one text is appended, and then another.
use Rattle.std.proofs.Common.{◌≡◌, ◌∙◌, ℕ, List, ◌++◌, ap, OnOk}
use Rattle.std.specs.Prelude.{Result, Ok, Err}
use Rattle.std.proofs.lemmas.List.{append_assoc}

pub after : {T E : Type 0} (result : Result T E) (old first middle second new : List ℕ) → middle ≡ old ++ first → OnOk result (new ≡ middle ++ second) → OnOk result (new ≡ old ++ (first ++ second))
after (Ok value) old first middle second new is appended = appended ∙ (ap (λ text. text ++ second) is ∙ append_assoc old first second)
after (Err fault) old first middle second new is appended = tt
