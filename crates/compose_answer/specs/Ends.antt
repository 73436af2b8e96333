-- How a command ends, given its answer, and with which exit status (this project's profile).
use Rattle.std.specs.Prelude.{ℕ, List, [], ◌∷◌, ◌++◌, Option, Some, None, Result, Ok, Err, string_bytes, codes}
use Rattle.keysym_core.specs.Printed.{shown_keysym}
use Rattle.compose_answer.specs.declared.answer.Answer.{Answer}
use Rattle.compose_answer.specs.declared.answer.Answer.TheVariants as answers
use Rattle.compose_answer.specs.declared.answer.Ended.{Ended}
use Rattle.compose_answer.specs.declared.answer.Ended.TheVariants.{Yes, No, Refused, NoMemory}
use Rattle.compose_migration.specs.declared.refusal.Refusal.{Refusal}
use Rattle.compose_migration.specs.declared.refusal.Refusal.TheVariants as refusals

abbrev pub end_of : Result Answer Refusal → Ended
end_of (Ok (answers.Yes text)) = Yes
end_of (Ok (answers.No text)) = No
end_of (Ok (answers.Invalid fault)) = No
end_of (Ok (answers.FreshNotAllowed keysym)) = No
end_of (Err refusals.NoMemory) = NoMemory
end_of (Err refusal) = Refused

abbrev pub status_of : Ended → ℕ
status_of Yes = 0
status_of No = 1
status_of Refused = 2
status_of NoMemory = 3

-- an answer with a text prints just that; the text of a fault is not specified here
abbrev pub printed_text : Answer → Option (List ℕ)
printed_text (answers.Yes text) = Some (string_bytes text)
printed_text (answers.No text) = Some (string_bytes text)
printed_text (answers.Invalid fault) = None
printed_text (answers.FreshNotAllowed keysym) = Some (codes "no: 16 FreshNotAllowed keysym=" ++ shown_keysym keysym ++ 10 ∷ [])
