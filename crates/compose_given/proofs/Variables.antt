-- The first of two variables that is set and not empty.
use Rattle.std.proofs.Common.{◌≡◌, ap, ◌∙◌, ℕ, Bool, true, false, List, Global}
use Rattle.std.specs.Prelude.{◌==◌, if◌then◌else◌, Option, Some, None, Ok, Err, string_bytes, string_len}
use Rattle.std.specs.declared.string.String.{String}
use Rattle.compose_given.specs.Variables.{Decoded, first_set, text_of}
use Rattle.compose_given.specs.declared.environment.Variable.{Variable}
use Rattle.compose_given.specs.declared.environment.Variable.TheVariants.{Set}

-- if the first is not UTF-8
pub first_err : (a b : Decoded (Option (List ℕ))) → a ≡ Err tt → first_set a b ≡ Err tt
first_err a b e = ap (λ x. first_set x b) e

-- if it is set
pub first_some : (a b : Decoded (Option (List ℕ))) (text : List ℕ) → a ≡ Ok (Some text) → first_set a b ≡ Ok (Some text)
first_some a b text e = ap (λ x. first_set x b) e

-- if it is not set
pub first_none : (a b : Decoded (Option (List ℕ))) → a ≡ Ok None → first_set a b ≡ b
first_none a b e = ap (λ x. first_set x b) e

-- a variable that is set to the empty text
pub set_nothing : (v : Variable) (text : String Global) → v ≡ Set text → (string_len text == 0) ≡ true → text_of v ≡ Ok None
set_nothing v text is e = ap text_of is ∙ ap (λ (b : Bool). Ok (if b then None else Some (string_bytes text))) e

-- a variable that is set and not empty
pub set_something : (v : Variable) (text : String Global) → v ≡ Set text → (string_len text == 0) ≡ false → text_of v ≡ Ok (Some (string_bytes text))
set_something v text is e = ap text_of is ∙ ap (λ (b : Bool). Ok (if b then None else Some (string_bytes text))) e
