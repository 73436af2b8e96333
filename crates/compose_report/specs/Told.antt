-- What is printed of what a command tells, or of a refusal (defined by this project).
use Rattle.std.specs.Prelude.{ℕ, true, false, List, [], map, Result, Ok, Err, string_bytes}
use Rattle.compose_migration.specs.declared.refusal.Refusal.{Refusal}
use Rattle.compose_details.specs.declared.given.Given.{Given}
use Rattle.compose_report.specs.Outcomes.{IsNoted, IsOutcome, IsWorded}
use Rattle.compose_report.specs.declared.form.Form.{Form}
use Rattle.compose_report.specs.declared.form.Form.TheVariants.{Line, Details, Words}
use Rattle.compose_report.specs.declared.outcome.Outcome.{Outcome}
use Rattle.compose_report.specs.declared.told.Told.{Told}

abbrev pub arguments_of : Given → List (List ℕ)
arguments_of given = map (λ argument. argument.now) given.arguments.now

-- a refusal in this form: its line, the line and its details, or the details for people
abbrev pub IsRefusalIn : Form → Given → Refusal → Outcome → Type 0
IsRefusalIn Line given refusal outcome = (own : List ℕ) × IsOutcome own (arguments_of given) [] (Err refusal) outcome
IsRefusalIn Details given refusal outcome = IsWorded true true given (Err refusal) outcome
IsRefusalIn Words given refusal outcome = IsWorded false true given (Err refusal) outcome

-- what is told, with its details below it, or a refusal in this form
abbrev pub IsTold : Form → Given → Result Told Refusal → Outcome → Type 0
IsTold form given (Ok told) outcome = (own : List ℕ) × IsOutcome own (arguments_of given) (string_bytes told.details) (Ok told.answer) outcome
IsTold form given (Err refusal) outcome = IsRefusalIn form given refusal outcome

-- the same after these notes
pub record IsToldOutcome (form : Form) (given : Given) (notes : List ℕ) (told : Result Told Refusal) (outcome : Outcome) : Type 0 where
  pub printed : Outcome
  pub is : IsTold form given told printed
  pub noted : IsNoted notes printed outcome
