-- What `update` reads, and what it does with the table in use (this project's profile).
use Rattle.std.specs.Prelude.{◌≡◌, ℕ, true, false, List, [], ◌∷◌, map, Option, Some, None, option_copied, Result, Ok, Err, string_bytes, codes}
use Rattle.std.specs.declared.alloc.Global.{Global}
use Rattle.std.specs.declared.string.String.{String}
use Rattle.compose_folder.specs.Content.{Entry, File, IsHeld}
use Rattle.compose_model.specs.declared.Rule.TheVariants.{Longest}
use Rattle.compose_read.specs.Lines.{Source}
use Rattle.compose_bundle.specs.Bundle.{Bundle, IsBundle}
use Rattle.compose_answer.specs.declared.answer.Answer.{Answer}
use Rattle.compose_answer.specs.declared.answer.Answer.TheVariants.{Yes}
use Rattle.compose_answer.specs.declared.answer.Ended.TheVariants as ends
use Rattle.compose_migration.specs.declared.refusal.Refusal.{Refusal}
use Rattle.compose_arguments.specs.declared.update_arguments.UpdateArguments.{UpdateArguments}
use Rattle.compose_details.specs.Given.{IsGiven, parts_of}
use Rattle.compose_details.specs.declared.given.Given.{Given}
use Rattle.compose_diff_rows.specs.Answers.{Asked, AnswersDiff}
use Rattle.compose_diff_rows.specs.declared.asking.DiffFault.{DiffFault}
use Rattle.compose_diff_rows.specs.declared.asking.DiffFault.TheVariants as differing
use Rattle.compose_diff_rows.specs.declared.asking.Form.TheVariants.{Folded}
use Rattle.compose_input.specs.Names.{AreNames}
use Rattle.compose_input.specs.Tables.{IsFoundOnSystem}
use Rattle.compose_input.specs.declared.fault.Fault.{Fault}
use Rattle.compose_input.specs.declared.fault.Fault.TheVariants as faults
use Rattle.compose_input.specs.declared.places.Places.{Places}
use Rattle.compose_report.specs.Outcomes.{IsOutcome, IsWorded, PrintsOutput, PrintsErrors}
use Rattle.compose_report.specs.declared.outcome.Outcome.{Outcome}
use Rattle.compose_update.specs.Update.{GivenUpdate, Updates}
use Rattle.compose_update.specs.declared.deciding.Update.{Update}
use Rattle.compose_update.specs.declared.deciding.Update.TheVariants as updates
use Rattle.compose_update.specs.declared.deciding.UpdateFault.{UpdateFault}
use Rattle.compose_update.specs.declared.deciding.UpdateFault.TheVariants.{Input, TooLarge}
use Rattle.compose_given.specs.Names.{names_or_builtin}
use Rattle.compose_runs.specs.Differing.{IsAcceptRefusal}
use Rattle.compose_given.specs.Environment.{IsPlaced}
use Rattle.compose_runs.specs.Stored.{IsDamaged}
use Rattle.compose_given.specs.declared.environment.Environment.{Environment}
use Rattle.compose_given.specs.declared.environment.PlaceArguments.{PlaceArguments}
use Rattle.compose_runs.specs.declared.updating.IntendedChanges.{IntendedChanges}
use Rattle.compose_runs.specs.declared.updating.UpdateFiles.{UpdateFiles}
use Rattle.compose_runs.specs.declared.updating.UpdateRun.{UpdateRun}
use Rattle.compose_runs.specs.declared.updating.UpdateRun.TheVariants.{Replaced, Meant, Refused}

-- ---- what is read

abbrev pub update_places : UpdateArguments → PlaceArguments
update_places arguments = record { system = arguments.system; locale = arguments.locale; root = None }

-- the bytes of the repertoire; none if no path is given
abbrev pub IsRepertoire : Option (List Entry) → Option (List ℕ) → List ℕ → Type 0
IsRepertoire folder None bytes = bytes ≡ []
IsRepertoire folder (Some path) bytes = IsHeld folder path (File bytes)

-- the list of intended changes, if its path is given
abbrev pub IsIntendedList : Option (List Entry) → Option (List ℕ) → Option IntendedChanges → Type 0
IsIntendedList folder None None = Unit {0}
IsIntendedList folder (Some path) (Some meant) = (string_bytes meant.path ≡ path) × IsHeld folder path (File meant.lines.items)
IsIntendedList folder path meant = ⊥

-- the given names, or else the built-in ones, the Compose file as it is on the system (the longest
-- of its overlapping sequences counts), the repertoire, and the list of intended changes
pub record AreUpdateFiles (folder : Option (List Entry)) (environment : Environment) (names : List (List ℕ)) (arguments : UpdateArguments) (files : UpdateFiles) : Type 0 where
  pub places : Places
  pub are_places : IsPlaced environment (update_places arguments) places
  pub are_names : AreNames folder (names_or_builtin names) files.names
  pub is_new : IsFoundOnSystem folder places arguments.file.now Longest files.new
  pub is_repertoire : IsRepertoire folder (option_copied arguments.repertoire) files.repertoire.items
  pub is_meant : IsIntendedList folder (option_copied arguments.accept) files.meant

-- ---- the decision

-- the sources of the table in use: those of the stored bundle
abbrev pub IsCurrent : Option (List ℕ) → Option (List Source) → Type 0
IsCurrent None current = current ≡ None
IsCurrent (Some bytes) current = (bundle : Bundle) × IsBundle bytes bundle × (current ≡ Some bundle.sources)

abbrev pub update_given : UpdateFiles → List (List ℕ) → Option (List Source) → GivenUpdate
update_given files fresh current = record {
  header = files.names.lines.items;
  fresh = fresh;
  current = current;
  new = files.new.sources;
  repertoire = files.repertoire.items;
}

-- the input of `diff` for the table in use and the new one, if these changes are intended
abbrev pub intended_input : UpdateFiles → List (List ℕ) → IntendedChanges → List Source → Asked
intended_input files fresh meant current = record {
  migration = record { header = files.names.lines.items; key_names = fresh; old = record { sources = current; rule = Longest }; new = record { sources = files.new.sources; rule = Longest } };
  old_paths = map (λ (source : Source). source.name) current;
  new_paths = map string_bytes files.new.paths.items;
  accepted = meant.lines.items;
  lost_alone = false;
  form = Folded;
}

-- ---- its execution

-- nothing changes, and the outcome has this property
abbrev pub IsRefusedAs : (Outcome → Type 0) → UpdateRun → Type 0
IsRefusedAs Prints (Refused outcome) = Prints outcome
IsRefusedAs Prints run = ⊥

-- an input is refused, in words for people; the new table stands for both tables, since the one in
-- use was read when it was taken into use
pub record IsUpdateRefusal (files : UpdateFiles) (fresh : List (List ℕ)) (refusal : Refusal) (outcome : Outcome) : Type 0 where
  pub given : Given
  pub parts : IsGiven (parts_of files.names fresh (files.new ∷ files.new ∷ [])) given
  pub is : IsWorded false true given (Err refusal) outcome

-- the stored bytes and the certificate are those of the decision; otherwise the lines that `make`
-- prints, or why there is no decision
abbrev pub IsUpdateDone : UpdateFiles → List (List ℕ) → Result Update UpdateFault → UpdateRun → Type 0
IsUpdateDone files fresh (Ok (updates.Replaced stored certificate)) run = run ≡ Replaced stored certificate
IsUpdateDone files fresh (Ok (updates.Refused text)) run = IsRefusedAs (PrintsOutput (string_bytes text) ends.No) run
IsUpdateDone files fresh (Err (Input refusal)) run = IsRefusedAs (IsUpdateRefusal files fresh refusal) run
IsUpdateDone files fresh (Err TooLarge) run = IsRefusedAs (PrintsErrors (codes "composecheck: the files and their certificate have more than 8,388,608 bytes\n") ends.Refused) run

-- all changes are intended: the stored bytes are those of the decision as if no table were in use
abbrev pub IsDoneIfIntended : UpdateFiles → List (List ℕ) → Result Update UpdateFault → UpdateRun → Type 0
IsDoneIfIntended files fresh (Ok (updates.Replaced stored certificate)) run = run ≡ Meant stored
IsDoneIfIntended files fresh decided run = IsUpdateDone files fresh decided run

pub record IsStoredIfIntended (files : UpdateFiles) (fresh : List (List ℕ)) (run : UpdateRun) : Type 0 where
  pub decided : Result Update UpdateFault
  pub is : Updates (update_given files fresh None) decided
  pub done : IsDoneIfIntended files fresh decided run

-- the new table is stored if `diff` answers yes; otherwise its answer, or why it has none, is
-- printed
abbrev pub IsIntendedAnswer : UpdateFiles → List (List ℕ) → IntendedChanges → Result Answer DiffFault → UpdateRun → Type 0
IsIntendedAnswer files fresh meant (Ok (Yes text)) run = IsStoredIfIntended files fresh run
IsIntendedAnswer files fresh meant (Ok answer) run = IsRefusedAs (λ outcome. (own : List ℕ) × IsOutcome own fresh [] (Ok answer) outcome) run
IsIntendedAnswer files fresh meant (Err (differing.Input refusal)) run = IsRefusedAs (IsUpdateRefusal files fresh refusal) run
IsIntendedAnswer files fresh meant (Err (differing.Accept fault)) run = IsRefusedAs (IsAcceptRefusal false (Some (string_bytes meant.path)) fault) run

-- typing would change from the table in use, and these changes are intended
pub record IsIntendedRun (files : UpdateFiles) (fresh : List (List ℕ)) (meant : IntendedChanges) (current : List Source) (run : UpdateRun) : Type 0 where
  pub answered : Result Answer DiffFault
  pub is : AnswersDiff (intended_input files fresh meant current) answered
  pub done : IsIntendedAnswer files fresh meant answered run

-- typing would change: if a table is in use, the list of intended changes decides; otherwise the
-- lines that say so are printed
abbrev pub IsRefusedOrListed : UpdateFiles → List (List ℕ) → IntendedChanges → Option (List Source) → String Global → UpdateRun → Type 0
IsRefusedOrListed files fresh meant None text run = IsRefusedAs (PrintsOutput (string_bytes text) ends.No) run
IsRefusedOrListed files fresh meant (Some current) text run = IsIntendedRun files fresh meant current run

-- the same if such a list is given; otherwise the lines are printed
abbrev pub IsRefusedOrIntended : UpdateFiles → List (List ℕ) → Option IntendedChanges → Option (List Source) → String Global → UpdateRun → Type 0
IsRefusedOrIntended files fresh None current text run = IsRefusedAs (PrintsOutput (string_bytes text) ends.No) run
IsRefusedOrIntended files fresh (Some meant) current text run = IsRefusedOrListed files fresh meant current text run

-- the decision is executed; but if typing would change, and a list of intended changes is given,
-- that list decides
abbrev pub IsDecisionDone : UpdateFiles → List (List ℕ) → Option IntendedChanges → Option (List Source) → Result Update UpdateFault → UpdateRun → Type 0
IsDecisionDone files fresh meant current (Ok (updates.Refused text)) run = IsRefusedOrIntended files fresh meant current text run
IsDecisionDone files fresh meant current decided run = IsUpdateDone files fresh decided run

-- the decision about the new table and the one in use is executed
pub record IsUpdateOf (files : UpdateFiles) (fresh : List (List ℕ)) (current : Option (List Source)) (run : UpdateRun) : Type 0 where
  pub decided : Result Update UpdateFault
  pub is : Updates (update_given files fresh current) decided
  pub done : IsDecisionDone files fresh files.meant current decided run

-- the same, if these are the stored bytes of the table in use
pub record IsUpdateRun (files : UpdateFiles) (fresh : List (List ℕ)) (stored : Option (List ℕ)) (run : UpdateRun) : Type 0 where
  pub current : Option (List Source)
  pub is_current : IsCurrent stored current
  pub is : IsUpdateOf files fresh current run

-- the stored bytes are not a bundle, and the message doesn't say where they are; or memory ran out
abbrev pub FailsStored : Option (List ℕ) → Fault → Type 0
FailsStored None fault = fault ≡ faults.NoMemory
FailsStored (Some bytes) fault = IsDamaged [] bytes fault
