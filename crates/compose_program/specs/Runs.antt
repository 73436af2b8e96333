-- A run of a command that reads files and answers (this project's profile).
use Rattle.std.specs.Prelude.{◌⊎◌, List, Option}
use Rattle.compose_arguments.specs.declared.question.Question.{Question}
use Rattle.compose_folder.specs.Content.{Entry}
use Rattle.compose_input.specs.declared.fault.Fault.{Fault}
use Rattle.compose_report.specs.declared.outcome.Outcome.{Outcome}
use Rattle.compose_given.specs.declared.environment.Environment.{Environment}
use Rattle.compose_runs.specs.declared.options.Options.{Options}
use Rattle.compose_program.specs.Faults.{IsFaultInForm}
use Rattle.compose_program.specs.Questions.{Answers, Fails}
use Rattle.compose_report.specs.declared.form.Form.{Form}

-- the outcome of the command; or, in this form, why its input can't be read or is refused
abbrev pub IsRun : Option (List Entry) → Environment → Options → Form → Question → Outcome → Type 0
IsRun folder environment options form question outcome =
    Answers folder environment options question outcome ⊎ ((fault : Fault) × Fails folder environment options question fault × IsFaultInForm form fault outcome)
