-- What the exit statuses of the program mean for the people who type (this project's profile).
use Rattle.std.specs.Prelude.{◌≡◌, ℕ, Bool, not, List, [], Option, None, Result, Ok, unwrap_or, string_bytes, IsTrue}
use Rattle.compose_answer.specs.Parts.{Explainable, explain_parts}
use Rattle.compose_check.specs.Input.{Input, Parts, parts_of, allowed_parts, verdict_on}
use Rattle.compose_check.specs.declared.verdict.Verdict.TheVariants.{Yes}
use Rattle.compose_compare.specs.Change.{StillTypes, is_added, is_new_start}
use Rattle.compose_diff.specs.Accepted.{Line, accepted_of}
use Rattle.compose_diff_rows.specs.Answers.{Asked, compared_parts, old_written, new_written}
use Rattle.compose_diff_rows.specs.Following.{is_named}
use Rattle.compose_diff_rows.specs.Rows.{row_of}
use Rattle.compose_migration.specs.Migration.{GivenMigration}
use Rattle.compose_model.specs.Table.{Definition, is_sequence, text_at}
use Rattle.keysym_core.specs.Names.{KeysymNames}
use Rattle.compose_promise.specs.Kept.{IsKept}
use Rattle.compose_promise.specs.Promise.{KeepsTyping}
use Rattle.compose_report.specs.declared.outcome.Outcome.{Outcome}
use Rattle.compose_tool.specs.Answers.{first_not_among}

-- ---- certificates

-- the parts of the input are read, the verdict on them is yes, and what the certificate promises
-- holds of them
pub record IsPromised (input : Input) : Type 0 where
  pub parts : Parts
  pub read : parts_of input ≡ Ok parts
  pub yes : verdict_on parts ≡ Yes
  pub kept : IsKept parts

-- the same of a check with `--fresh`: the certificate lists no other keysym as fresh, so the new
-- table changes nobody's typing but for these keys
pub record IsPromisedBut (fresh : List (List ℕ)) (input : Input) : Type 0 where
  pub parts : Parts
  pub read : allowed_parts fresh input ≡ Ok parts
  pub yes : verdict_on parts ≡ Yes
  pub kept : IsKept parts
  pub no_other : first_not_among parts.keys parts.certificate.fresh ≡ None
  pub keeps : KeepsTyping parts.names parts.keys parts.old parts.new

-- the verdict on this certificate is yes, with these names of fresh keysyms and without them
abbrev pub IsCertified : List (List ℕ) → GivenMigration → List ℕ → List ℕ → Type 0
IsCertified fresh given repertoire certificate =
    let input : Input = record { migration = given; repertoire = repertoire; certificate = certificate } in
    IsPromised input × IsPromisedBut fresh input

-- no text is a certificate for them with just these fresh keysyms
abbrev pub HasNone : List (List ℕ) → GivenMigration → List ℕ → Type 0
HasNone fresh given repertoire = (certificate : List ℕ) → IsPromisedBut fresh (record { migration = given; repertoire = repertoire; certificate = certificate }) → ⊥

-- ---- comparisons

-- the tables and the fresh keys of this input are read, and the new table changes nobody's typing
-- but for these keys
pub record KeepsFrom (given : GivenMigration) : Type 0 where
  pub parts : Explainable
  pub read : explain_parts given ≡ Ok parts
  pub keeps : KeepsTyping parts.move.names parts.fresh parts.move.old parts.move.new

-- its keys still type the text that they typed
abbrev pub IsTypedAsBefore : KeysymNames → List Definition → List Definition → List ℕ → Type 0
IsTypedAsBefore names old new s = StillTypes names new s (unwrap_or (text_at old s) [])

-- the new table changes nobody's typing but for the fresh keys, and each sequence of the old one is
-- typed as before
pub record LosesNothing (asked : Asked) : Type 0 where
  pub compared : Explainable
  pub read : compared_parts asked.migration ≡ Ok compared
  pub keeps : KeepsTyping compared.move.names compared.fresh compared.move.old compared.move.new
  pub typed : (s : List ℕ) → IsTrue (is_sequence compared.move.old s) → IsTypedAsBefore compared.move.names compared.move.old compared.move.new s

-- one of the lines is what is printed of the row of this sequence
abbrev pub is_intended : Asked → Explainable → List Line → List ℕ → Bool
is_intended asked e lines s = is_named lines (row_of e.move.names e.fresh (old_written asked e) (new_written asked e) s)

-- each sequence of the old table is typed as before, and none that the new one adds is a new start,
-- unless a line of the list of intended changes names it
pub record LosesOnlyIntended (asked : Asked) : Type 0 where
  pub compared : Explainable
  pub read : compared_parts asked.migration ≡ Ok compared
  pub lines : List Line
  pub intended : accepted_of asked.accepted ≡ Ok lines
  pub typed : (s : List ℕ) → IsTrue (is_sequence compared.move.old s) → IsTrue (not (is_intended asked compared lines s))
      → IsTypedAsBefore compared.move.names compared.move.old compared.move.new s
  pub starts_none : (s : List ℕ) → IsTrue (is_added compared.move.old compared.move.new s) → IsTrue (not (is_intended asked compared lines s))
      → IsTrue (not (is_new_start compared.move.names compared.fresh compared.move.old compared.move.new s))

-- ---- refusals

-- standard output stays empty, and no file is written
pub record IsSilent (outcome : Outcome) : Type 0 where
  pub output : string_bytes outcome.output ≡ []
  pub file : outcome.file ≡ None
