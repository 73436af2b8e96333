-- What becomes of a table that `update` is to take into use, and what is stored, loaded or handed
-- over then (this project's profile: docs/SERVICE.md).
use Rattle.std.specs.Prelude.{◌≡◌, ◌⊎◌, ◌||◌, ◌&&◌, not, if◌then◌else◌, ℕ, Bool, true, false, List, [], ◌∷◌, ◌++◌, Option, Some, None, option_map, Result, Ok, Err, string_bytes, codes, IsTrue, IsFalse}
use Rattle.std.specs.Str.{bytes_eq}
use Rattle.std.specs.declared.alloc.AllocError.{AllocError}
use Rattle.std.specs.declared.alloc.Global.{Global}
use Rattle.std.specs.declared.vec.Vec.{Vec}
use Rattle.std.specs.declared.io.ErrorKind.{ErrorKind}
use Rattle.builtin_names.specs.declared.lines.TheConstants.{LINES}
use Rattle.compose_model.specs.declared.Rule.TheVariants.{Longest}
use Rattle.compose_model.specs.Step.{is_empty}
use Rattle.keysym_core.specs.Header.{names_of}
use Rattle.keysym_core.specs.Names.{KeysymNames}
use Rattle.compose_read.specs.Lines.{Source}
use Rattle.compose_tree.specs.TableReturns.{NoTable, first_table}
use Rattle.compose_bundle.specs.Bundle.{Bundle, IsBundle}
use Rattle.compose_table_file.specs.TableFile.{TableFile, FileHas, file_of}
use Rattle.compose_answer.specs.declared.answer.Ended.{Ended}
use Rattle.compose_answer.specs.declared.answer.Ended.TheVariants.{Yes, Refused as InputRefused}
use Rattle.compose_input.specs.declared.fault.Fault.{Fault}
use Rattle.compose_report.specs.Outcomes.{PrintsErrors}
use Rattle.compose_report.specs.declared.outcome.Outcome.{Outcome}
use Rattle.compose_runs.specs.Updating.{IsUpdateRun}
use Rattle.compose_runs.specs.declared.updating.UpdateFiles.{UpdateFiles}
use Rattle.compose_runs.specs.declared.updating.UpdateRun.{UpdateRun}
use Rattle.compose_runs.specs.declared.updating.UpdateRun.TheVariants as runs
use Rattle.compose_service_runs.specs.Clients.{IsExchange, LoadsTable}
use Rattle.compose_service_runs.specs.Merged.{IsMergedInto, WasMergedWith}
use Rattle.compose_service_runs.specs.Turns.{Turn}
use Rattle.compose_service_runs.specs.declared.client.ClientRequests.{ClientRequests}
use Rattle.compose_service_runs.specs.declared.merged.MergedUpdate.{MergedUpdate}
use Rattle.compose_service_runs.specs.declared.merged.MergedUpdate.TheVariants as merges
use Rattle.compose_service_runs.specs.declared.taking.Decision.{Decision}
use Rattle.compose_service_runs.specs.declared.taking.Handed.{Handed}
use Rattle.compose_service_runs.specs.declared.taking.Handed.TheVariants.{Taken, Waits, Unwritten}
use Rattle.compose_service_runs.specs.declared.taking.Taking.{Taking}
use Rattle.compose_service_runs.specs.declared.taking.Wanted.{Wanted}
use Rattle.compose_service_runs.specs.declared.taking.Taking.TheVariants as takings

-- the same files followed by this one, if they are known
abbrev pub more : Option (List (List ℕ)) → List ℕ → Option (List (List ℕ))
more files file = option_map (λ before. before ++ file ∷ []) files

-- ---- what becomes of a table

-- the table in use, by the bytes of its file; none if no file is stored. A file that can't be read
-- is not taken for none
abbrev pub IsInUse : Result (Option (Vec ℕ Global)) Fault → Option TableFile → Type 0
IsInUse (Ok None) current = current ≡ None
IsInUse (Ok (Some bytes)) (Some table) = FileHas bytes.items table
IsInUse stored current = ⊥

-- what an update was given: whether to merge, and names and a repertoire, each with whether it was;
-- without an option the names are the built-in ones
pub record Asked : Type 0 where
  pub merges : Bool
  pub has_names : Bool
  pub names : List ℕ
  pub has_repertoire : Bool
  pub repertoire : List ℕ

abbrev pub asked_by : Wanted → UpdateFiles → Asked
asked_by wanted files = record { merges = wanted.merge; has_names = wanted.has_names; names = files.names.lines.items; has_repertoire = wanted.has_repertoire; repertoire = files.repertoire.items }

-- the lines of names as a file keeps them: none if they are those of the built-in names
abbrev pub kept_names : List ℕ → List ℕ
kept_names lines = if bytes_eq lines LINES.now then [] else lines

-- the lines of the names by which the new table is read: those that were given, or otherwise those
-- of the table in use
abbrev pub names_needed : Asked → Option TableFile → List ℕ
names_needed a None = a.names
names_needed a (Some table) = if a.has_names || is_empty table.names then a.names else table.names

-- what people need: the repertoire that was given, or otherwise that of the table in use
abbrev pub needed : Asked → Option TableFile → List ℕ
needed a None = a.repertoire
needed a (Some table) = if a.has_repertoire then a.repertoire else table.repertoire

-- other names, or another repertoire, than those of the table in use were given
abbrev pub has_other_names : Asked → TableFile → Bool
has_other_names a table = a.has_names && not (bytes_eq (kept_names a.names) table.names)

abbrev pub has_other_repertoire : Asked → TableFile → Bool
has_other_repertoire a table = a.has_repertoire && not (bytes_eq a.repertoire table.repertoire)

abbrev pub is_other : Asked → Option TableFile → Bool
is_other a None = false
is_other a (Some table) = has_other_repertoire a table || has_other_names a table

-- the change is meant although the table follows: it names fresh keys, people need other characters
-- than before, or the table is read by other names
abbrev pub is_meant : Asked → List (List ℕ) → Option TableFile → Bool
is_meant a [] current = is_other a current
is_meant a (name ∷ fresh) None = false
is_meant a (name ∷ fresh) (Some table) = true

abbrev pub payload_of : Option TableFile → Option (List ℕ)
payload_of current = option_map (λ (table : TableFile). table.payload) current

-- the keysyms that a load may list as fresh are those of the table in use; none if there is no such
-- table
abbrev pub fresh_of : Option TableFile → List ℕ
fresh_of None = []
fresh_of (Some table) = table.fresh

-- the table in use has the sources of these files
abbrev pub HasSources : Option TableFile → List Source → Type 0
HasSources None sources = ⊥
HasSources (Some table) sources = (b : Bundle) × IsBundle table.payload b × (b.sources ≡ sources)

-- what is kept of a table that `update` takes: the longest of overlapping sequences counts
abbrev pub table_kept : UpdateFiles → List ℕ → List ℕ → TableFile
table_kept files fresh payload = record { rule = Longest; repertoire = files.repertoire.items; names = kept_names files.names.lines.items; fresh = fresh; payload = payload }

abbrev pub IsFile : UpdateFiles → List ℕ → List ℕ → List ℕ → Type 0
IsFile files fresh payload file = IsBundle file (file_of (table_kept files fresh payload))

-- a load of the new table with this certificate; none if no table is in use
abbrev pub IsLoad : UpdateFiles → Option (List ℕ) → Option ClientRequests → Type 0
IsLoad files None load = load ≡ None
IsLoad files (Some certificate) None = ⊥
IsLoad files (Some certificate) (Some load) = LoadsTable files.new certificate [] load

-- what becomes of the table of these files by a decision of `update` that has this property: it is
-- refused; it follows the table in use; or it is meant
abbrev pub Decides : Bool → List ℕ → (UpdateRun → Type 0) → UpdateFiles → Taking → Type 0
Decides meant fresh Ran files (takings.Refused outcome) = Ran (runs.Refused outcome)
Decides meant fresh Ran files takings.Same = ⊥
Decides meant fresh Ran files (takings.Follows file load) =
    (stored : _) × (certificate : _) × Ran (runs.Replaced stored certificate) × IsFalse meant × IsFile files fresh stored.items file.items
    × IsLoad files (option_map string_bytes certificate) load
Decides meant fresh Ran files (takings.Meant file) =
    (stored : _) × (Ran (runs.Meant stored) ⊎ ((certificate : _) × Ran (runs.Replaced stored certificate) × IsTrue meant)) × IsFile files fresh stored.items file.items

abbrev pub IsRefusedTable : KeysymNames → List Source → Type 0
IsRefusedTable names sources = (why : NoTable) × (first_table names sources Longest ≡ Err why)

-- the table with this payload can't be read by the names with these lines
abbrev pub IsUnreadable : List ℕ → List ℕ → Type 0
IsUnreadable lines payload = (names : KeysymNames) × (names_of lines ≡ Ok names) × ((b : Bundle) × IsBundle payload b × IsRefusedTable names b.sources)

abbrev pub unread : List ℕ
unread = codes "composecheck: the table in use can't be read by the names that are given: give those that it was read by too\n"

-- other names were given, and the table in use can't be read by them, which is printed
abbrev pub IsUnread : Asked → Option TableFile → UpdateFiles → Outcome → Type 0
IsUnread a None files outcome = ⊥
IsUnread a (Some table) files outcome = IsTrue (is_other a (Some table)) × IsUnreadable files.names.lines.items table.payload × PrintsErrors unread InputRefused outcome

-- the same beside a table in use, which may be that of these files
abbrev pub Becomes : Asked → List (List ℕ) → Option TableFile → UpdateFiles → Taking → Type 0
Becomes a fresh current files takings.Same = HasSources current files.new.sources × IsFalse (is_other a current)
Becomes a fresh current files (takings.Refused outcome) =
    Decides (is_meant a fresh current) (fresh_of current) (IsUpdateRun files fresh (payload_of current)) files (takings.Refused outcome) ⊎ IsUnread a current files outcome
Becomes a fresh current files taking = Decides (is_meant a fresh current) (fresh_of current) (IsUpdateRun files fresh (payload_of current)) files taking

-- this becomes of a table, and nothing is said of it
pub record IsUnnoted (taking : Taking) (decision : Decision) : Type 0 where
  pub taken : decision.taking ≡ taking
  pub unsaid : string_bytes decision.notes ≡ []

-- the table in use has the sources of these files, or was merged with them
abbrev pub IsFrom : TableFile → List Source → Type 0
IsFrom current new = HasSources (Some current) new ⊎ WasMergedWith current.payload new

-- what becomes of the merged table; what is left out is said
abbrev pub BecomesOf : Asked → List (List ℕ) → TableFile → MergedUpdate → Decision → Type 0
BecomesOf a fresh current (merges.Merged files report) decision = Becomes a fresh (Some current) files decision.taking × (decision.notes ≡ report)
BecomesOf a fresh current (merges.Refused outcome) decision = IsUnnoted (takings.Refused outcome) decision

-- if a table is merged into the one in use, that may be from the same files, with nothing else asked
-- for; or it can't be read by the names that were given; otherwise the merged table is decided on in
-- the place of the new one
abbrev pub BecomesMerged : Asked → List (List ℕ) → TableFile → UpdateFiles → Decision → Type 0
BecomesMerged a fresh current files decision =
    (IsUnnoted takings.Same decision × IsFrom current files.new.sources × IsFalse (is_meant a fresh (Some current)))
    ⊎ ((outcome : Outcome) × IsUnnoted (takings.Refused outcome) decision × IsUnread a (Some current) files outcome)
    ⊎ ((merged : MergedUpdate) × IsMergedInto current.payload files fresh merged × BecomesOf a fresh current merged decision)

-- what becomes of the table of these files itself; nothing is said of it
abbrev pub BecomesUnsaid : Asked → List (List ℕ) → Option TableFile → UpdateFiles → Decision → Type 0
BecomesUnsaid a fresh current files decision = Becomes a fresh current files decision.taking × (string_bytes decision.notes ≡ [])

-- beside a table in use, by whether the new one is merged into it
abbrev pub BecomesBeside : Bool → Asked → List (List ℕ) → TableFile → UpdateFiles → Decision → Type 0
BecomesBeside false a fresh current files decision = BecomesUnsaid a fresh (Some current) files decision
BecomesBeside true a fresh current files decision = BecomesMerged a fresh current files decision

-- the decision about the table of these files; without a table in use there is no merge
abbrev pub IsDecision : Asked → List (List ℕ) → Option TableFile → UpdateFiles → Decision → Type 0
IsDecision a fresh None files decision = BecomesUnsaid a fresh None files decision
IsDecision a fresh (Some current) files decision = BecomesBeside a.merges a fresh current files decision

-- of the files only the lines of the names and the repertoire change: the names to those by which
-- the table is read, the repertoire to what people need
pub record Needs (names repertoire : List ℕ) (old new : UpdateFiles) : Type 0 where
  pub lines : new.names.lines.items ≡ names
  pub table : new.new ≡ old.new
  pub meant : new.meant ≡ old.meant
  pub characters : new.repertoire.items ≡ repertoire

-- what becomes of the table of these files, by the bytes of the file of the table in use
pub record DecidesTaking (a : Asked) (fresh : List (List ℕ)) (stored : Result (Option (Vec ℕ Global)) Fault) (old new : UpdateFiles) (decision : Decision) : Type 0 where
  pub current : Option TableFile
  pub in_use : IsInUse stored current
  pub needs : Needs (names_needed a current) (needed a current) old new
  pub becomes : IsDecision a fresh current new decision

-- ---- definitions for private functions

-- the same beside a table in use
pub record DecidesBeside (a : Asked) (fresh : List (List ℕ)) (current : TableFile) (old new : UpdateFiles) (decision : Decision) : Type 0 where
  pub needs : Needs (names_needed a (Some current)) (needed a (Some current)) old new
  pub becomes : IsDecision a fresh (Some current) new decision

-- of the files the names change to those with these lines, unless they stay
pub record NeedsNames (stay : Bool) (lines : List ℕ) (old new : UpdateFiles) : Type 0 where
  pub lines_are : new.names.lines.items ≡ (if stay then old.names.lines.items else lines)
  pub table : new.new ≡ old.new
  pub meant : new.meant ≡ old.meant
  pub characters : new.repertoire ≡ old.repertoire

-- of the files the repertoire changes to this one, unless it stays
pub record NeedsRepertoire (stay : Bool) (repertoire : List ℕ) (old new : UpdateFiles) : Type 0 where
  pub names : new.names ≡ old.names
  pub table : new.new ≡ old.new
  pub meant : new.meant ≡ old.meant
  pub characters : new.repertoire.items ≡ (if stay then old.repertoire.items else repertoire)

-- ---- what is done

-- a line of output, after a note
pub record PrintsNoted (note line : List ℕ) (outcome : Outcome) : Type 0 where
  pub notes : string_bytes outcome.notes ≡ note
  pub output : string_bytes outcome.output ≡ line
  pub errors : string_bytes outcome.errors ≡ []
  pub file : outcome.file ≡ None
  pub ended : outcome.ended ≡ Yes

abbrev pub unchanged : List ℕ
unchanged = codes "unchanged\n"

abbrev pub meant_note : List ℕ
meant_note = codes "note: typing changes as it is meant to\n"

abbrev pub taken_note : List ℕ
taken_note = codes "note: typing changes as it is meant to; the running service has taken the table, and its sessions begin anew\n"

-- a file is stored, and that is printed after this note; or it can't be stored, or memory ran out:
-- then nothing is
abbrev pub Stores : List ℕ → List ℕ → Option (List (List ℕ)) → Option (List (List ℕ)) → Result (Result Outcome ErrorKind) AllocError → Type 0
Stores note file old new (Ok (Ok outcome)) = PrintsNoted note (codes "stored\n") outcome × (new ≡ more old file)
Stores note file old new (Ok (Err why)) = new ≡ old
Stores note file old new (Err e) = new ≡ old

-- while no service runs a table is stored if it follows or is meant, and nothing else is
abbrev pub TakesAlone : Taking → Option (List (List ℕ)) → Option (List (List ℕ)) → Outcome → Type 0
TakesAlone (takings.Refused refused) old new outcome = (outcome ≡ refused) × (new ≡ old)
TakesAlone takings.Same old new outcome = PrintsNoted [] unchanged outcome × (new ≡ old)
TakesAlone (takings.Follows file load) old new outcome = PrintsNoted [] (codes "stored\n") outcome × (new ≡ more old file.items)
TakesAlone (takings.Meant file) old new outcome = PrintsNoted meant_note (codes "stored\n") outcome × (new ≡ more old file.items)

-- it is printed; or the table can't be stored; or memory ran out: then nothing is stored
abbrev pub TakesHere : Taking → Option (List (List ℕ)) → Option (List (List ℕ)) → Result (Result Outcome ErrorKind) AllocError → Type 0
TakesHere taking old new (Ok (Ok outcome)) = TakesAlone taking old new outcome
TakesHere taking old new (Ok (Err why)) = new ≡ old
TakesHere taking old new (Err e) = new ≡ old

-- what is printed by the end of the exchange: once the load is answered with yes, that the table is
-- stored
abbrev pub PrintsLoaded : Ended → Outcome → Outcome → Type 0
PrintsLoaded Yes exchanged outcome = (string_bytes outcome.output ≡ string_bytes exchanged.output ++ codes "stored\n") × (outcome.ended ≡ Yes)
PrintsLoaded ended exchanged outcome = outcome ≡ exchanged

pub record IsLoaded (load : ClientRequests) (before after : Option (List Turn)) (outcome : Outcome) : Type 0 where
  pub exchanged : Outcome
  pub exchange : IsExchange load before after exchanged
  pub prints : PrintsLoaded exchanged.ended exchanged outcome

-- a table that was handed over, by what the service made of it
abbrev pub waiting : List ℕ
waiting = codes "composecheck: the running service has not taken the table yet: it does so at its next connection\n"

abbrev pub IsHandedOver : Outcome → Type 0
IsHandedOver outcome = PrintsNoted taken_note (codes "stored\n") outcome ⊎ PrintsErrors waiting InputRefused outcome

-- the outcome, if there is one, has this property
abbrev pub OnOkOk : {E : Type 0} → Result (Result Outcome ErrorKind) E → (Outcome → Type 0) → Type 0
OnOkOk (Ok (Ok outcome)) P = P outcome
OnOkOk (Ok (Err why)) P = Unit {0}
OnOkOk (Err e) P = Unit {0}

-- while a service runs, only a table that follows is loaded, and only one that is meant is handed
-- over
abbrev pub TakesRunning : Taking → Option (List Turn) → Option (List Turn) → Option (List (List ℕ)) → Option (List (List ℕ)) → Outcome → Type 0
TakesRunning (takings.Refused refused) turns turns' handed handed' outcome = (outcome ≡ refused) × (turns' ≡ turns) × (handed' ≡ handed)
TakesRunning takings.Same turns turns' handed handed' outcome = PrintsNoted [] unchanged outcome × (turns' ≡ turns) × (handed' ≡ handed)
TakesRunning (takings.Follows file (Some load)) turns turns' handed handed' outcome = IsLoaded load turns turns' outcome × (handed' ≡ handed)
TakesRunning (takings.Follows file None) turns turns' handed handed' outcome = IsHandedOver outcome × (turns' ≡ turns) × (handed' ≡ more handed file.items)
TakesRunning (takings.Meant file) turns turns' handed handed' outcome = IsHandedOver outcome × (turns' ≡ turns) × (handed' ≡ more handed file.items)
