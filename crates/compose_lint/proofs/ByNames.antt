-- The answer by the names of the header.
use Rattle.std.proofs.Common.{◌≡◌}
use Rattle.std.specs.Prelude.{Result, Ok, Err, IfOk}
use Rattle.keysym_core.specs.Names.{KeysymNames}
use Rattle.keysym_core.specs.Header.{names_of}
use Rattle.compose_answer.specs.declared.answer.Answer.{Answer}
use Rattle.compose_migration.specs.declared.refusal.Refusal.TheVariants.{Names, Key, Table as TableRefused, Side, Repertoire, Certificate, Fresh, TooManyFresh, NoMemory}
use Rattle.compose_lint.specs.Answers.{Asked, AnswersBy, AnswersLint}
use Rattle.compose_lint.specs.declared.asking.LintFault.{LintFault}
use Rattle.compose_lint.specs.declared.asking.LintFault.TheVariants.{Input, Accept}

pub by_names : (asked : Asked) (names : KeysymNames) (answered : Result Answer LintFault) → names_of asked.header ≡ Ok names → AnswersBy asked names answered → AnswersLint asked answered
by_names asked names (Ok answer) read by = (names, read, by)
by_names asked names (Err (Accept fault)) read by = (names, read, by)
by_names asked names (Err (Input NoMemory)) read by = tt
by_names asked names (Err (Input (Names fault))) read by = absurd by
by_names asked names (Err (Input (Key index))) read by = absurd by
by_names asked names (Err (Input (TableRefused fault))) read by = absurd by
by_names asked names (Err (Input (Side side fault))) read by = absurd by
by_names asked names (Err (Input (Repertoire fault))) read by = absurd by
by_names asked names (Err (Input (Certificate fault))) read by = absurd by
by_names asked names (Err (Input (Fresh fault))) read by = absurd by
by_names asked names (Err (Input TooManyFresh)) read by = absurd by

-- another property of the value, if there is one
pub ok_map : {X E : Type 0} (P Q : X → Type 0) (r : Result X E) → ((x : X) → P x → Q x) → IfOk r P → IfOk r Q
ok_map P Q (Ok x) f h = f x h
ok_map P Q (Err e) f h = tt
