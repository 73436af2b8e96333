-- What is printed if the arguments are not a command (this project's profile): help on standard
-- output, a refusal on standard error.
use Rattle.std.specs.Prelude.{◌≡◌, ℕ, List, [], None, string_bytes, codes}
use Rattle.clap.specs.declared.error.kind.ErrorKind.{ErrorKind}
use Rattle.clap.specs.declared.error.kind.ErrorKind.TheVariants.{DisplayHelp, DisplayVersion, OutOfMemory}
use Rattle.compose_shown.specs.Shown.{shown_lines}
use Rattle.compose_report.specs.Ends.{arguments_end}
use Rattle.compose_report.specs.declared.outcome.Outcome.{Outcome}

-- the help or the version, if it is asked for
abbrev pub help_lines : ErrorKind → List ℕ → List ℕ
help_lines DisplayHelp text = text
help_lines DisplayVersion text = text
help_lines kind text = []

-- why the arguments are refused, as a terminal may show it; this program has its own words if
-- memory runs out
abbrev pub error_lines : ErrorKind → List ℕ → List ℕ
error_lines DisplayHelp text = []
error_lines DisplayVersion text = []
error_lines OutOfMemory text = codes "out of memory\n"
error_lines kind text = shown_lines text

pub record IsArgumentsOutcome (kind : ErrorKind) (text : List ℕ) (outcome : Outcome) : Type 0 where
  pub notes : string_bytes outcome.notes ≡ []
  pub output : string_bytes outcome.output ≡ help_lines kind text
  pub errors : string_bytes outcome.errors ≡ error_lines kind text
  pub file : outcome.file ≡ None
  pub ended : outcome.ended ≡ arguments_end kind
