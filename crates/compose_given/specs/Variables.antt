-- The variables of the environment (POSIX, "Environment Variables"). A variable that is set to the
-- empty text is treated as one that is not set.
use Rattle.std.specs.Prelude.{◌≡◌, ℕ, ◌==◌, ◌-◌, nat_eq, if◌then◌else◌, List, length, take, Option, Some, None, option_copied, Result, Ok, Err, string_bytes, string_len}
use Rattle.std.proofs.Common.{Bor}
use Rattle.std.specs.List.{suffix_len}
use Rattle.compose_input.specs.declared.fault.Fault.{Fault}
use Rattle.compose_input.specs.declared.fault.Fault.TheVariants.{Word}
use Rattle.compose_given.specs.declared.environment.Variable.{Variable}
use Rattle.compose_given.specs.declared.environment.Variable.TheVariants.{Unset, Set, NotUtf8}

-- a value, or that a variable is not UTF-8
abbrev pub Decoded : Type 0 → Type 0
Decoded X = Result X (Unit {0})

-- the text of a variable
abbrev pub text_of : Variable → Decoded (Option (List ℕ))
text_of Unset = Ok None
text_of (Set text) = Ok (if string_len text == 0 then None else Some (string_bytes text))
text_of NotUtf8 = Err tt

-- the text, or the fault that it is not UTF-8
abbrev pub IsDecoded : Result (Option (Bor (List ℕ))) Fault → Decoded (Option (List ℕ)) → Type 0
IsDecoded (Ok text) spec = spec ≡ Ok (option_copied text)
IsDecoded (Err fault) spec = (spec ≡ Err tt) × (fault ≡ Word)

-- the first of two variables that is set and not empty
abbrev pub first_set : Decoded (Option (List ℕ)) → Decoded (Option (List ℕ)) → Decoded (Option (List ℕ))
first_set (Ok None) next = next
first_set (Ok (Some text)) next = Ok (Some text)
first_set (Err fault) next = Err fault

-- a path without the slashes (code 47) at its end
abbrev pub without_slashes : List ℕ → List ℕ
without_slashes path = take (length path - suffix_len (nat_eq 47) path) path
