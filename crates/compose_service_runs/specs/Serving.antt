-- The table and the service with which `serve` starts (this project's profile).
use Rattle.std.specs.Prelude.{◌≡◌, ◌⊎◌, ◌||◌, ◌&&◌, not, ℕ, Bool, true, false, List, [], ◌∷◌, ◌++◌, map, unwrap_or, Option, Some, None, Result, Ok, Err, string_bytes, codes}
use Rattle.std.specs.declared.alloc.Global.{Global}
use Rattle.std.specs.declared.string.String.{String}
use Rattle.compose_folder.specs.Content.{Entry, File, IsHeld}
use Rattle.compose_machine.specs.Machine.{ServiceState}
use Rattle.compose_answer.specs.declared.answer.Answer.{Answer}
use Rattle.compose_answer.specs.declared.answer.Answer.TheVariants as answers
use Rattle.compose_migration.specs.declared.refusal.Refusal.{Refusal}
use Rattle.compose_arguments.specs.declared.given_tables.TypeTable.{TypeTable}
use Rattle.compose_arguments.specs.declared.given_tables.TypeTable.TheVariants.{Manifest, File as ComposeFile}
use Rattle.compose_arguments.specs.declared.serve_arguments.ServedFiles.{ServedFiles}
use Rattle.compose_details.specs.Given.{GivenParts, IsGiven, parts_of}
use Rattle.compose_details.specs.declared.given.Given.{Given}
use Rattle.compose_input.specs.Names.{AreNames}
use Rattle.compose_report.specs.Outcomes.{IsNoted, IsOutcome, IsWorded}
use Rattle.compose_report.specs.declared.outcome.Outcome.{Outcome}
use Rattle.compose_serving.specs.Begin.{BeginReturns, start_over}
use Rattle.compose_serving.specs.Fresh.{Allows}
use Rattle.compose_serving.specs.declared.start.BeginFault.{BeginFault}
use Rattle.compose_serving.specs.declared.start.BeginFault.TheVariants.{Invalid, Refused}
use Rattle.compose_given.specs.GivenTable.{IsGivenTable}
use Rattle.compose_given.specs.Names.{names_for}
use Rattle.compose_runs.specs.OneTable.{is_refused}
use Rattle.compose_given.specs.declared.environment.Environment.{Environment}
use Rattle.compose_runs.specs.declared.options.Options.{Options}
use Rattle.compose_service_runs.specs.declared.serving.NotedFiles.{NotedFiles}
use Rattle.compose_service_runs.specs.declared.serving.ServiceFiles.{ServiceFiles}

-- ---- what is read

-- a table is given as its Compose file
abbrev pub is_file : TypeTable → Bool
is_file (Manifest path) = false
is_file (ComposeFile arguments) = true

-- the names, the table, the repertoire and the certificate that are served, and the notes on the
-- table
pub record AreServiceFiles (folder : Option (List Entry)) (environment : Environment) (names : List (List ℕ)) (served : ServedFiles) (files : NotedFiles) : Type 0 where
  pub are_names : AreNames folder (names_for (is_file served.table) names) files.read.names
  pub is_table : IsGivenTable folder environment served.table (record { table = files.read.table; notes = files.notes })
  pub is_repertoire : IsHeld folder served.repertoire.now (File files.read.repertoire.items)
  pub is_certificate : IsHeld folder served.certificate.now (File files.read.certificate.items)

-- ---- the service that starts

-- with exactly these files
abbrev pub Begins : ServiceFiles → Result ServiceState BeginFault → Type 0
Begins files result =
    BeginReturns files.names.lines.items files.repertoire.items (start_over files.table.sources files.table.rule files.certificate.items) result

-- its loads may list only the keysyms of these names as fresh, if names are given
abbrev pub AllowsAlone : Option (List (List ℕ)) → ServiceState → Result ServiceState BeginFault → Type 0
AllowsAlone None begun result = result ≡ Ok begun
AllowsAlone (Some names) begun (Ok service) = Allows begun names (Ok service)
AllowsAlone (Some names) begun (Err (Refused refusal)) = Allows begun names (Err refusal)
AllowsAlone (Some names) begun (Err (Invalid fault)) = ⊥

-- a service starts with these files, and allows this; or none starts
abbrev pub BeginsAllowing : ServiceFiles → Option (List (List ℕ)) → Result ServiceState BeginFault → Type 0
BeginsAllowing files allowed result =
    ((begun : ServiceState) × Begins files (Ok begun) × AllowsAlone allowed begun result) ⊎ ((fault : BeginFault) × Begins files (Err fault) × (result ≡ Err fault))

-- ---- the outcome if none starts

-- an invalid certificate, as in `check`, or a refusal
abbrev pub start_answer : BeginFault → Result Answer Refusal
start_answer (Invalid fault) = Ok (answers.Invalid fault)
start_answer (Refused refusal) = Err refusal

-- the input of `serve`: the same table as the old and the new one
abbrev pub service_given : ServiceFiles → ServedFiles → List (List ℕ) → GivenParts
service_given files served fresh = record (parts_of files.names fresh (files.table ∷ files.table ∷ [])) {
  repertoire = served.repertoire.now;
  repertoire_text = files.repertoire.items;
  certificate = served.certificate.now;
  certificate_text = files.certificate.items;
}

-- whether details are printed, faulty lines or the keys and places of a `no`: if `verbose`, and for
-- a refusal always if a Compose file is served
abbrev pub wants_details : Bool → ServedFiles → Result Answer Refusal → Bool
wants_details verbose served answered = verbose || (is_file served.table && is_refused answered)

-- the answer or the refusal, with each faulty line of these files; for people if a Compose file is
-- served
pub record IsStartReported (files : ServiceFiles) (served : ServedFiles) (fresh : List (List ℕ)) (answered : Result Answer Refusal) (outcome : Outcome) : Type 0 where
  pub given : Given
  pub parts : IsGiven (service_given files served fresh) given
  pub worded : IsWorded (not (is_file served.table)) true given answered outcome

-- the answer or the refusal alone; if details are wanted, with each faulty line of the files in the
-- folder
abbrev pub IsStartOutcome : Bool → Option (List Entry) → Environment → List (List ℕ) → ServedFiles → List (List ℕ) → Result Answer Refusal → Outcome → Type 0
IsStartOutcome false folder environment names served fresh answered outcome = (own : List ℕ) × IsOutcome own fresh [] answered outcome
IsStartOutcome true folder environment names served fresh answered outcome =
    (files : NotedFiles) × AreServiceFiles folder environment names served files × IsStartReported files.read served fresh answered outcome

-- the outcome if no service starts, after the notes
pub record IsStartRefused (folder : Option (List Entry)) (environment : Environment) (options : Options) (served : ServedFiles) (allowed : Option (List (List ℕ))) (files : NotedFiles) (outcome : Outcome) : Type 0 where
  pub fault : BeginFault
  pub begins : BeginsAllowing files.read allowed (Err fault)
  pub printed : Outcome
  pub is : IsStartOutcome (wants_details options.verbose served (start_answer fault)) folder environment (map (λ name. name.now) options.names.now) served (unwrap_or allowed []) (start_answer fault) printed
  pub noted : IsNoted (string_bytes files.notes) printed outcome

-- the service that starts with these files, and the notes; or the outcome if none starts
abbrev pub IsStarted : Option (List Entry) → Environment → Options → ServedFiles → Option (List (List ℕ)) → NotedFiles → Result (ServiceState × String Global) Outcome → Type 0
IsStarted folder environment options served allowed files (Ok (service, notes)) = BeginsAllowing files.read allowed (Ok service) × (string_bytes notes ≡ string_bytes files.notes)
IsStarted folder environment options served allowed files (Err outcome) = IsStartRefused folder environment options served allowed files outcome

-- the same with the files in the folder
abbrev pub IsServiceStart : Option (List Entry) → Environment → Options → ServedFiles → Option (List (List ℕ)) → Result (ServiceState × String Global) Outcome → Type 0
IsServiceStart folder environment options served allowed started =
    (files : NotedFiles) × AreServiceFiles folder environment (map (λ name. name.now) options.names.now) served files × IsStarted folder environment options served allowed files started
