-- What `load` and `session` send, and what they print for the replies (this project's profile:
-- docs/PROTOCOL.md).
use Rattle.std.specs.Prelude.{◌≡◌, ◌⊎◌, ◌||◌, not, ◌<◌, ℕ, Bool, true, false, List, [], ◌∷◌, ◌++◌, map, length, take, slice_get, Option, Some, None, option_map, if◌then◌else◌, Result, Ok, Err, string_bytes, codes}
use Rattle.std.specs.List.{list_all}
use Rattle.keysym_core.specs.Core.{core_names}
use Rattle.keysym_core.specs.Header.{names_of}
use Rattle.compose_folder.specs.Content.{Entry, File, IsHeld}
use Rattle.compose_bundle.specs.Bundle.{Bundle, BundleFits, bundle_bytes}
use Rattle.compose_bundle.specs.Written.{max_payload}
use Rattle.compose_migration.specs.Migration.{NamedParts, named}
use Rattle.compose_wire.specs.declared.request.Request.{Request}
use Rattle.compose_wire.specs.declared.reply.Reply.{Reply}
use Rattle.compose_session.specs.AskedSession.{LoadReturns, asks, bodies_of}
use Rattle.compose_session.specs.ReplyLine.{report_of, reported}
use Rattle.compose_session.specs.declared.asked.AskedSession.{AskedSession}
use Rattle.compose_session.specs.declared.reply_line.ExchangeReport.{ExchangeReport}
use Rattle.compose_migration.specs.Refused.{IsRefused}
use Rattle.compose_migration.specs.declared.refusal.Refusal.{Refusal}
use Rattle.compose_arguments.specs.declared.client_arguments.LoadArguments.{LoadArguments}
use Rattle.compose_arguments.specs.declared.client_arguments.SessionArguments.{SessionArguments}
use Rattle.compose_details.specs.Given.{IsGiven, parts_of}
use Rattle.compose_details.specs.declared.given.Given.{Given}
use Rattle.compose_input.specs.Names.{AreNames}
use Rattle.compose_input.specs.Texts.{IsRead}
use Rattle.compose_input.specs.Faults.{FailNames}
use Rattle.compose_input.specs.declared.fault.Fault.{Fault}
use Rattle.compose_input.specs.declared.fault.Fault.TheVariants as faults
use Rattle.compose_input.specs.declared.names.NameFiles.{NameFiles}
use Rattle.compose_input.specs.declared.tables.TableFiles.{TableFiles}
use Rattle.compose_report.specs.Exchange.{IsExchangeOutcome}
use Rattle.compose_report.specs.Outcomes.{IsNoted, IsWorded}
use Rattle.compose_report.specs.declared.outcome.Outcome.{Outcome}
use Rattle.compose_given.specs.Faults.{OrMemory}
use Rattle.compose_given.specs.GivenTable.{FailsGivenTable, HasGivenTable, IsGivenTable}
use Rattle.compose_given.specs.Names.{names_for}
use Rattle.compose_runs.specs.WrittenKeys.{AreKeyNames}
use Rattle.compose_given.specs.declared.environment.Environment.{Environment}
use Rattle.compose_given.specs.declared.chosen.NotedTable.{NotedTable}
use Rattle.compose_service_runs.specs.Turns.{Turn, goes_through, then_turns, turns_of}
use Rattle.compose_service_runs.specs.declared.client.ClientRequests.{ClientRequests}
use Rattle.compose_runs.specs.declared.options.Options.{Options}

-- ---- load: one request, and no keys

-- the bundle of the table and this certificate
abbrev pub bundle_of : TableFiles → List ℕ → Bundle
bundle_of table certificate = record { sources = table.sources; certificate = certificate }

-- one request, which loads the bundle by the table's rule, with these notes
pub record LoadsTable (table : TableFiles) (certificate expected : List ℕ) (sent : ClientRequests) : Type 0 where
  pub notes : string_bytes sent.notes ≡ expected
  pub names : sent.names ≡ core_names
  pub request : Request
  pub one : sent.requests.items ≡ request ∷ []
  pub loads : LoadReturns (Ok request) table.rule (bundle_of table certificate)

-- the bundle doesn't fit into a load
abbrev pub IsUnsendable : Bundle → Fault → Type 0
IsUnsendable bundle (faults.Refused part why) = (part.now ≡ codes "load") × (BundleFits bundle → max_payload < length (bundle_bytes bundle))
IsUnsendable bundle faults.NoMemory = Unit {0}
IsUnsendable bundle fault = ⊥

-- the new table, the certificate at its path, and the notes on the table
pub record IsLoadRun (folder : Option (List Entry)) (environment : Environment) (arguments : LoadArguments) (sent : ClientRequests) : Type 0 where
  pub new : NotedTable
  pub is_new : IsGivenTable folder environment arguments.new new
  pub certificate : List ℕ
  pub is_certificate : IsHeld folder arguments.certificate.now (File certificate)
  pub loads : LoadsTable new.table certificate (string_bytes new.notes) sent

-- both are read, and don't fit into a load
pub record IsUnsendableLoad (folder : Option (List Entry)) (environment : Environment) (arguments : LoadArguments) (fault : Fault) : Type 0 where
  pub new : NotedTable
  pub is_new : IsGivenTable folder environment arguments.new new
  pub certificate : List ℕ
  pub is_certificate : IsHeld folder arguments.certificate.now (File certificate)
  pub unsendable : IsUnsendable (bundle_of new.table certificate) fault

-- in the order of reading: the table, the certificate; then the load
abbrev pub FailsLoad : Option (List Entry) → Environment → LoadArguments → Fault → Type 0
FailsLoad folder environment arguments fault =
    OrMemory (λ f. FailsGivenTable folder environment (codes "new") arguments.new f
    ⊎ ((HasGivenTable folder environment arguments.new × IsRead folder arguments.certificate.now (Err f)) ⊎ IsUnsendableLoad folder environment arguments f)) fault

-- ---- session

-- the request that the arguments describe, with these keysyms
pub record IsAsked (keys : List ℕ) (arguments : SessionArguments) (asked : AskedSession) : Type 0 where
  pub session : asked.session ≡ arguments.session
  pub opens : asked.open ≡ arguments.open
  pub resets : asked.reset ≡ arguments.reset
  pub typed : asked.keys.now ≡ keys
  pub asks_state : asked.ask ≡ arguments.ask
  pub closes : asked.close ≡ arguments.close

-- its requests, in order, and no notes
pub record AsksSession (n : NamedParts) (arguments : SessionArguments) (sent : ClientRequests) : Type 0 where
  pub quiet : string_bytes sent.notes ≡ []
  pub names : sent.names ≡ n.names
  pub asked : AskedSession
  pub is_asked : IsAsked n.keys arguments asked
  pub requests : sent.requests.items ≡ map (asks asked.session) (bodies_of asked)

-- a refusal of the names or of the keys; with `verbose` or `--files` with each faulty line, and
-- with `--files` for people
pub record IsKeysReported (verbose are_files : Bool) (names : NameFiles) (keys : List (List ℕ)) (refusal : Refusal) (outcome : Outcome) : Type 0 where
  pub given : Given
  pub parts : IsGiven (parts_of names keys []) given
  pub worded : IsWorded (not are_files) (verbose || are_files) given (Err refusal) outcome

-- the names or the keys are refused
abbrev pub IsKeysRefused : Bool → Bool → NameFiles → List (List ℕ) → Outcome → Type 0
IsKeysRefused verbose are_files names keys outcome =
    (refusal : Refusal) × IsRefused refusal (named names.lines.items keys) × IsKeysReported verbose are_files names keys refusal outcome

-- the requests, by the keys with these names; or the outcome if the names or the keys are refused
abbrev pub IsSessionBy : Bool → NameFiles → SessionArguments → List (List ℕ) → Result ClientRequests Outcome → Type 0
IsSessionBy verbose names arguments keys (Ok sent) = (n : NamedParts) × (named names.lines.items keys ≡ Ok n) × AsksSession n arguments sent
IsSessionBy verbose names arguments keys (Err outcome) = IsKeysRefused verbose arguments.files names keys outcome

-- the same by the keys as they are written: with `--files` a key may be written as its character
pub record IsSessionOf (verbose : Bool) (names : NameFiles) (arguments : SessionArguments) (started : Result ClientRequests Outcome) : Type 0 where
  pub keys : List (List ℕ)
  pub are_keys : AreKeyNames arguments.files (names_of names.lines.items) (map (λ key. key.now) arguments.keys.items) keys
  pub is : IsSessionBy verbose names arguments keys started

-- the same by the names in the folder
pub record IsSessionRun (folder : Option (List Entry)) (options : Options) (arguments : SessionArguments) (started : Result ClientRequests Outcome) : Type 0 where
  pub names : NameFiles
  pub are_names : AreNames folder (names_for arguments.files (map (λ name. name.now) options.names.now)) names
  pub is : IsSessionOf options.verbose names arguments started

-- ---- the exchange

-- each request is sent once all before it are answered, and none of them is refused; then the
-- report on the replies is printed, after the notes
pub record IsExchange (sent : ClientRequests) (before after : Option (List Turn)) (outcome : Outcome) : Type 0 where
  pub replies : List Reply
  pub turns : after ≡ then_turns before (turns_of sent.requests.items replies)
  pub report : ExchangeReport
  pub is_report : report_of report ≡ reported sent.names sent.requests.items replies
  pub printed : Outcome
  pub is_printed : IsExchangeOutcome report printed
  pub noted : IsNoted (string_bytes sent.notes) printed outcome

-- ---- why an exchange stops

-- these replies answered the first requests, and none of them is a refusal; for the next request
-- the other side gives this fault
pub record StopsAt {P : Type 0} (turns : P → Option (List Turn)) (gives : P → Request → Fault → Type 0) (requests : List Request) (before : P) (fault : Fault) : Type 0 where
  pub peer : P
  pub replies : List Reply
  pub answered : list_all goes_through replies ≡ true
  pub turned : turns peer ≡ then_turns (turns before) (turns_of (take (length replies) requests) replies)
  pub request : Request
  pub next : slice_get requests (length replies) ≡ Some request
  pub given : gives peer request fault

-- such a fault, or memory ran out
abbrev pub FailsExchange : {P : Type 0} → (P → Option (List Turn)) → (P → Request → Fault → Type 0) → List Request → P → Fault → Type 0
FailsExchange turns gives requests before fault = OrMemory (StopsAt turns gives requests before) fault

-- ---- why nothing is sent

abbrev pub FailsSession : Option (List Entry) → Bool → List (List ℕ) → Fault → Type 0
FailsSession folder are_files names fault = OrMemory (FailNames folder (names_for are_files names)) fault
