-- What a run prints and how it ends (this project's profile). `own` is the printed form of the
-- fault of an invalid certificate, or of a refusal: it is derived, and no contract describes it.
use Rattle.std.specs.Prelude.{◌≡◌, ℕ, Bool, true, false, List, [], ◌∷◌, ◌++◌, map, slice_get, None, Result, Ok, Err, string_bytes, codes}
use Rattle.std.specs.Option.{option_map_or}
use Rattle.keysym_core.specs.Printed.{shown_keysym}
use Rattle.compose_shown.specs.Shown.{shown_text}
use Rattle.compose_answer.specs.Ends.{end_of}
use Rattle.compose_answer.specs.declared.answer.Ended.{Ended}
use Rattle.compose_answer.specs.declared.answer.Ended.TheVariants as ends
use Rattle.compose_answer.specs.declared.answer.Answer.{Answer}
use Rattle.compose_answer.specs.declared.answer.Answer.TheVariants.{Yes, No, Invalid, FreshNotAllowed}
use Rattle.compose_migration.specs.declared.refusal.Refusal.{Refusal}
use Rattle.compose_migration.specs.declared.refusal.Refusal.TheVariants.{Key, NoMemory}
use Rattle.compose_input.specs.declared.fault.Fault.{Fault}
use Rattle.compose_input.specs.declared.fault.Fault.TheVariants.{NoMemory as FaultNoMemory}
use Rattle.compose_details.specs.Answers.{IsAnswerDetails}
use Rattle.compose_details.specs.Input.{fault_lines, fault_words}
use Rattle.compose_details.specs.Refusals.{IsRefusalDetails}
use Rattle.compose_details.specs.declared.given.Given.{Given}
use Rattle.compose_report.specs.declared.outcome.Outcome.{Outcome}

-- ---- a run that prints one text

pub record PrintsOutput (text : List ℕ) (ended : Ended) (outcome : Outcome) : Type 0 where
  pub notes : string_bytes outcome.notes ≡ []
  pub output : string_bytes outcome.output ≡ text
  pub errors : string_bytes outcome.errors ≡ []
  pub file : outcome.file ≡ None
  pub ends : outcome.ended ≡ ended

pub record PrintsErrors (text : List ℕ) (ended : Ended) (outcome : Outcome) : Type 0 where
  pub notes : string_bytes outcome.notes ≡ []
  pub output : string_bytes outcome.output ≡ []
  pub errors : string_bytes outcome.errors ≡ text
  pub file : outcome.file ≡ None
  pub ends : outcome.ended ≡ ended

-- the same outcome, with these notes
pub record IsNoted (expected : List ℕ) (before outcome : Outcome) : Type 0 where
  pub notes : string_bytes outcome.notes ≡ expected
  pub output : outcome.output ≡ before.output
  pub errors : outcome.errors ≡ before.errors
  pub file : outcome.file ≡ before.file
  pub ended : outcome.ended ≡ before.ended

-- ---- two runs, one after the other

-- what the first prints, then what the second prints, and the end of the second
pub record PrintsBoth (first second outcome : Outcome) : Type 0 where
  pub notes : string_bytes outcome.notes ≡ string_bytes first.notes ++ string_bytes second.notes
  pub output : string_bytes outcome.output ≡ string_bytes first.output ++ string_bytes second.output
  pub errors : string_bytes outcome.errors ≡ string_bytes first.errors ++ string_bytes second.errors
  pub file : outcome.file ≡ None
  pub ends : outcome.ended ≡ second.ended

-- ---- an answer, or a refusal

-- the text of an answer, on standard output
abbrev pub answer_text : List ℕ → Answer → List ℕ
answer_text own (Yes text) = string_bytes text
answer_text own (No text) = string_bytes text
answer_text own (Invalid fault) = codes "no: " ++ (own ++ 10 ∷ [])
answer_text own (FreshNotAllowed keysym) = codes "no: 16 FreshNotAllowed keysym=" ++ (shown_keysym keysym ++ 10 ∷ [])

-- the line of a refused argument: the one with this index, which has no keysym
abbrev pub key_line : List ℕ → List (List ℕ) → ℕ → List ℕ
key_line own arguments index = option_map_or (λ argument. codes "refused: key: " ++ (shown_text argument ++ 10 ∷ [])) (slice_get arguments index) (own ++ 10 ∷ [])

-- the line of a refusal, on standard error
abbrev pub refusal_line : List ℕ → List (List ℕ) → Refusal → List ℕ
refusal_line own arguments (Key index) = key_line own arguments index
refusal_line own arguments NoMemory = codes "out of memory\n"
refusal_line own arguments refusal = own ++ 10 ∷ []

abbrev pub output_text : List ℕ → Result Answer Refusal → List ℕ
output_text own (Ok answer) = answer_text own answer
output_text own (Err refusal) = []

abbrev pub error_text : List ℕ → List (List ℕ) → Result Answer Refusal → List ℕ
error_text own arguments (Ok answer) = []
error_text own arguments (Err refusal) = refusal_line own arguments refusal

-- the line of a refusal and its details; for people (not `numbered`) the details alone, if there
-- are any
abbrev pub reported_text : Bool → List ℕ → List ℕ → List ℕ
reported_text true line details = line ++ details
reported_text false line [] = line
reported_text false line (b ∷ details) = b ∷ details

-- the outcome of an answer or a refusal on these arguments, with these details; for people unless
-- `numbered`
pub record IsNumberedOutcome (numbered : Bool) (own : List ℕ) (arguments : List (List ℕ)) (details : List ℕ) (answered : Result Answer Refusal) (outcome : Outcome) : Type 0 where
  pub notes : string_bytes outcome.notes ≡ []
  pub output : string_bytes outcome.output ≡ output_text own answered
  pub errors : string_bytes outcome.errors ≡ reported_text numbered (error_text own arguments answered) details
  pub file : outcome.file ≡ None
  pub ended : outcome.ended ≡ end_of answered

-- the same with the details below the line
abbrev pub IsOutcome : List ℕ → List (List ℕ) → List ℕ → Result Answer Refusal → Outcome → Type 0
IsOutcome own arguments details answered outcome = IsNumberedOutcome true own arguments details answered outcome

-- what `-v` adds to an answer, or to a refusal
abbrev pub IsDetailed : Bool → Given → Result Answer Refusal → List ℕ → Type 0
IsDetailed false given answered details = details ≡ []
IsDetailed true given (Ok answer) details = IsAnswerDetails given answer details
IsDetailed true given (Err refusal) details = IsRefusalDetails given refusal details

-- the outcome of an answer or a refusal on the input, with what `-v` adds if `verbose`; for people
-- unless `numbered`
pub record IsWorded (numbered verbose : Bool) (given : Given) (answered : Result Answer Refusal) (outcome : Outcome) : Type 0 where
  pub own : List ℕ
  pub details : List ℕ
  pub detailed : IsDetailed verbose given answered details
  pub is : IsNumberedOutcome numbered own (map (λ argument. argument.now) given.arguments.now) details answered outcome

-- the same with what `-v` adds below the line
abbrev pub IsReported : Bool → Given → Result Answer Refusal → Outcome → Type 0
IsReported verbose given answered outcome = IsWorded true verbose given answered outcome

-- ---- unreadable input

abbrev pub fault_end : Fault → Ended
fault_end FaultNoMemory = ends.NoMemory
fault_end fault = ends.Refused

-- the outcome of a run whose input can't be read
abbrev pub IsFaultOutcome : Bool → Fault → Outcome → Type 0
IsFaultOutcome verbose fault outcome = (own : List ℕ) × PrintsErrors (fault_lines own verbose fault) (fault_end fault) outcome

-- the same for people: the place of the fault, and the reason
abbrev pub IsFaultWorded : Fault → Outcome → Type 0
IsFaultWorded fault outcome = (own : List ℕ) × PrintsErrors (fault_words own fault) (fault_end fault) outcome
