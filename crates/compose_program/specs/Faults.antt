-- The form in which a run prints why its input can't be read or is refused (defined by this
-- project).
use Rattle.std.specs.Prelude.{Bool, true, false, if◌then◌else◌}
use Rattle.compose_arguments.specs.declared.diff_arguments.DiffForm.{DiffForm}
use Rattle.compose_arguments.specs.declared.diff_arguments.DiffForm.TheVariants.{Json}
use Rattle.compose_arguments.specs.declared.given_tables.BothTables.{BothTables}
use Rattle.compose_arguments.specs.declared.given_tables.BothTables.TheVariants.{Manifests, Files}
use Rattle.compose_arguments.specs.declared.given_tables.TypeTable.{TypeTable}
use Rattle.compose_arguments.specs.declared.given_tables.TypeTable.TheVariants.{Manifest as OneManifest, File}
use Rattle.compose_arguments.specs.declared.question.Question.{Question}
use Rattle.compose_arguments.specs.declared.question.Question.TheVariants.{Keys, Check, Explain, Diff, How, List as ListTable, Lint, Make}
use Rattle.compose_arguments.specs.declared.request.CommandRequest.{CommandRequest}
use Rattle.compose_arguments.specs.declared.request.CommandRequest.TheVariants.{Answer, Update, TakeBack, Status, Serve, Load, Session}
use Rattle.compose_arguments.specs.declared.serve_arguments.Served.{Served}
use Rattle.compose_arguments.specs.declared.serve_arguments.Served.TheVariants.{Files as FilesServed, State}
use Rattle.compose_input.specs.declared.fault.Fault.{Fault}
use Rattle.compose_report.specs.Outcomes.{IsFaultOutcome, IsFaultWorded}
use Rattle.compose_report.specs.declared.outcome.Outcome.{Outcome}
use Rattle.compose_report.specs.declared.form.Form.{Form}
use Rattle.compose_report.specs.declared.form.Form.TheVariants.{Line, Details, Words}

-- ---- answers in JSON

abbrev pub is_json_form : DiffForm → Bool
is_json_form Json = true
is_json_form _ = false

abbrev pub is_json_answer : Question → Bool
is_json_answer (Diff arguments fresh) = is_json_form arguments.form
is_json_answer (How arguments texts) = arguments.json
is_json_answer (ListTable arguments) = arguments.json
is_json_answer (Lint arguments) = arguments.json
is_json_answer _ = false

abbrev pub is_json : CommandRequest → Bool
is_json (Answer question) = is_json_answer question
is_json _ = false

-- ---- Compose files instead of manifests

abbrev pub is_file : TypeTable → Bool
is_file (OneManifest path) = false
is_file (File table) = true

abbrev pub are_files : BothTables → Bool
are_files (Manifests paths) = false
are_files (Files pair) = true

abbrev pub is_answer_on_files : Question → Bool
is_answer_on_files (Keys table keys) = is_file table
is_answer_on_files (Check tables fresh repertoire certificate) = are_files tables
is_answer_on_files (Explain old new fresh all) = is_file old
is_answer_on_files (Make tables fresh all repertoire output) = are_files tables
is_answer_on_files _ = true

abbrev pub is_served_file : Served → Bool
is_served_file (FilesServed files) = is_file files.table
is_served_file (State folder) = false

abbrev pub is_of_files : CommandRequest → Bool
is_of_files (Answer question) = is_answer_on_files question
is_of_files (Update arguments fresh) = true
is_of_files (TakeBack arguments) = true
is_of_files (Status arguments) = true
is_of_files (Serve arguments fresh) = is_served_file arguments.served
is_of_files (Load arguments) = is_file arguments.new
is_of_files (Session arguments) = arguments.files

-- ---- the form

-- words if Compose files are given, and otherwise the line, with the details if `verbose`
abbrev pub refusal_form : Bool → Bool → Form
refusal_form verbose are_files = if are_files then Words else if verbose then Details else Line

-- details if the answer is in JSON
abbrev pub fault_form : Bool → CommandRequest → Form
fault_form verbose request = if is_json request then Details else refusal_form verbose (is_of_files request)

-- the outcome of a run whose input can't be read or is refused, in this form
abbrev pub IsFaultInForm : Form → Fault → Outcome → Type 0
IsFaultInForm Line fault outcome = IsFaultOutcome false fault outcome
IsFaultInForm Details fault outcome = IsFaultOutcome true fault outcome
IsFaultInForm Words fault outcome = IsFaultWorded fault outcome
