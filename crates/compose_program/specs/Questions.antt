-- The answer of each command that reads files to its question, and why it has none (defined by this
-- project).
use Rattle.std.specs.Prelude.{◌≡◌, ℕ, Bool, List, map, Option}
use Rattle.std.proofs.Common.{Bor}
use Rattle.std.specs.Option.{option_map}
use Rattle.compose_arguments.specs.declared.given_tables.BothTables.{BothTables}
use Rattle.compose_arguments.specs.declared.given_tables.BothTables.TheVariants.{Manifests, Files}
use Rattle.compose_arguments.specs.declared.given_tables.TypeTable.{TypeTable}
use Rattle.compose_arguments.specs.declared.given_tables.TypeTable.TheVariants.{Manifest as OneManifest, File}
use Rattle.compose_arguments.specs.declared.question.Question.{Question}
use Rattle.compose_arguments.specs.declared.question.Question.TheVariants.{Keys, Check, Explain as ToExplain, Diff, Merge, How, List as ListTable, ListAs, Lint, Make, Manifest}
use Rattle.compose_folder.specs.Content.{Entry}
use Rattle.compose_input.specs.declared.fault.Fault.{Fault}
use Rattle.compose_listed_as.specs.Run.{FailsListAs, IsListAsRun}
use Rattle.compose_report.specs.declared.outcome.Outcome.{Outcome}
use Rattle.compose_merging.specs.Runs.{IsMergeRun, FailsMerge}
use Rattle.compose_runs.specs.Checking.{IsCheckRun, IsCheckFilesRun}
use Rattle.compose_runs.specs.Differing.{IsDiffRun}
use Rattle.compose_explaining.specs.Explains.{FailsExplain, IsExplainRun}
use Rattle.compose_explaining.specs.declared.question.Explain.{Explain}
use Rattle.compose_runs.specs.Faults.{FailsType, FailsTypeFile, FailsTableRead, FailsCheck, FailsCheckFiles, FailsDiffRun, FailsHow, FailsLintRun, FailsMake, FailsMakeFiles, FailsManifestRun}
use Rattle.compose_runs.specs.HowTo.{IsHowRun}
use Rattle.compose_runs.specs.Linting.{IsLintRun}
use Rattle.compose_runs.specs.Listing.{IsListRun}
use Rattle.compose_runs.specs.Making.{IsMakeRun, IsMakeFilesRun}
use Rattle.compose_runs.specs.Manifest.{IsManifestRun}
use Rattle.compose_runs.specs.Typing.{IsTypeRun, IsTypeFileRun}
use Rattle.compose_runs.specs.declared.checking.CheckTexts.{CheckTexts}
use Rattle.compose_given.specs.declared.environment.Environment.{Environment}
use Rattle.compose_runs.specs.declared.making.MakeOptions.{MakeOptions}
use Rattle.compose_runs.specs.declared.options.Options.{Options}
use Rattle.compose_program.specs.Faults.{is_file, refusal_form}

-- the values of borrowed words, and those of the arguments of each `--names`
abbrev pub words : List (Bor (List ℕ)) → List (List ℕ)
words lent = map (λ word. word.now) lent

abbrev pub names_of : Options → List (List ℕ)
names_of options = words options.names.now

-- ---- manifests or Compose files

abbrev pub AnswersType : Option (List Entry) → Environment → Options → TypeTable → List (List ℕ) → Outcome → Type 0
AnswersType folder environment options (OneManifest path) keys outcome = IsTypeRun folder options path.now keys outcome
AnswersType folder environment options (File table) keys outcome = IsTypeFileRun folder environment (names_of options) table keys outcome

abbrev pub FailsToType : Option (List Entry) → Environment → Options → TypeTable → List (List ℕ) → Fault → Type 0
FailsToType folder environment options (OneManifest path) keys fault = FailsType folder (names_of options) path.now fault
FailsToType folder environment options (File table) keys fault = FailsTypeFile folder environment (names_of options) table keys fault

abbrev pub AnswersCheck : Option (List Entry) → Environment → Options → BothTables → CheckTexts → Option (List (List ℕ)) → Outcome → Type 0
AnswersCheck folder environment options (Manifests tables) texts allowed outcome =
    IsCheckRun folder options (record { tables = tables; repertoire = texts.repertoire; certificate = texts.certificate }) allowed outcome
AnswersCheck folder environment options (Files pair) texts allowed outcome = IsCheckFilesRun folder environment options pair texts allowed outcome

abbrev pub FailsToCheck : Option (List Entry) → Environment → Options → BothTables → CheckTexts → Fault → Type 0
FailsToCheck folder environment options (Manifests tables) texts fault =
    FailsCheck folder (names_of options) (record { tables = tables; repertoire = texts.repertoire; certificate = texts.certificate }) fault
FailsToCheck folder environment options (Files pair) texts fault = FailsCheckFiles folder environment (names_of options) pair texts fault

-- what `explain` is asked with these options, tables and names of fresh keysyms
pub record IsAsked (options : Options) (old new : TypeTable) (fresh : List (List ℕ)) (all : Bool) (asked : Explain) : Type 0 where
  pub are_names : asked.names ≡ options.names
  pub are_files : asked.are_files ≡ is_file old
  pub is_old : asked.old ≡ old
  pub is_new : asked.new ≡ new
  pub are_fresh : words asked.fresh.now ≡ fresh
  pub is_all : asked.all ≡ all
  pub is_verbose : asked.verbose ≡ options.verbose
  pub is_form : asked.form ≡ refusal_form options.verbose (is_file old)

abbrev pub AnswersExplain : Option (List Entry) → Environment → Options → TypeTable → TypeTable → List (List ℕ) → Bool → Outcome → Type 0
AnswersExplain folder environment options old new fresh all outcome = (asked : Explain) × IsAsked options old new fresh all asked × IsExplainRun folder environment asked outcome

abbrev pub FailsToExplain : Option (List Entry) → Environment → Options → TypeTable → TypeTable → List (List ℕ) → Bool → Fault → Type 0
FailsToExplain folder environment options old new fresh all fault = (asked : Explain) × IsAsked options old new fresh all asked × FailsExplain folder environment asked fault

abbrev pub AnswersMake : Option (List Entry) → Environment → Options → BothTables → MakeOptions → Outcome → Type 0
AnswersMake folder environment options (Manifests paths) making outcome = IsMakeRun folder options paths making outcome
AnswersMake folder environment options (Files pair) making outcome = IsMakeFilesRun folder environment options pair making outcome

abbrev pub FailsToMake : Option (List Entry) → Environment → Options → BothTables → List ℕ → Fault → Type 0
FailsToMake folder environment options (Manifests paths) repertoire fault = FailsMake folder (names_of options) paths.old.now paths.new.now repertoire fault
FailsToMake folder environment options (Files pair) repertoire fault = FailsMakeFiles folder environment (names_of options) pair repertoire fault

-- ---- every question

-- the outcome of the command with this question
abbrev pub Answers : Option (List Entry) → Environment → Options → Question → Outcome → Type 0
Answers folder environment options (Keys table keys) outcome = AnswersType folder environment options table (words keys.items) outcome
Answers folder environment options (Check tables fresh repertoire certificate) outcome =
    AnswersCheck folder environment options tables (record { repertoire = repertoire; certificate = certificate }) (option_map (λ names. words names.items) fresh) outcome
Answers folder environment options (ToExplain old new fresh all) outcome = AnswersExplain folder environment options old new (words fresh.items) all outcome
Answers folder environment options (Diff arguments fresh) outcome = IsDiffRun folder environment (names_of options) arguments (words fresh.items) outcome
Answers folder environment options (Merge arguments fresh) outcome = IsMergeRun folder environment (names_of options) arguments (words fresh.items) outcome
Answers folder environment options (How arguments texts) outcome = IsHowRun folder environment (names_of options) arguments (words texts.items) outcome
Answers folder environment options (ListTable arguments) outcome = IsListRun folder environment (names_of options) arguments outcome
Answers folder environment options (ListAs arguments) outcome = IsListAsRun folder environment arguments outcome
Answers folder environment options (Lint arguments) outcome = IsLintRun folder environment (names_of options) arguments outcome
Answers folder environment options (Make tables fresh all repertoire output) outcome =
    (making : MakeOptions) × (words making.fresh.now ≡ words fresh.items) × (making.all ≡ all) × (making.repertoire ≡ repertoire) × (making.output ≡ output)
    × AnswersMake folder environment options tables making outcome
Answers folder environment options (Manifest arguments) outcome = IsManifestRun folder environment arguments outcome

-- the first input that can't be read or is refused; or memory runs out
abbrev pub Fails : Option (List Entry) → Environment → Options → Question → Fault → Type 0
Fails folder environment options (Keys table keys) fault = FailsToType folder environment options table (words keys.items) fault
Fails folder environment options (Check tables fresh repertoire certificate) fault =
    FailsToCheck folder environment options tables (record { repertoire = repertoire; certificate = certificate }) fault
Fails folder environment options (ToExplain old new fresh all) fault = FailsToExplain folder environment options old new (words fresh.items) all fault
Fails folder environment options (Diff arguments fresh) fault = FailsDiffRun folder environment (names_of options) arguments fault
Fails folder environment options (Merge arguments fresh) fault = FailsMerge folder environment (names_of options) arguments fault
Fails folder environment options (How arguments texts) fault = FailsHow folder environment (names_of options) arguments fault
Fails folder environment options (ListTable arguments) fault = FailsTableRead folder environment (names_of options) arguments.table fault
Fails folder environment options (ListAs arguments) fault = FailsListAs folder environment arguments fault
Fails folder environment options (Lint arguments) fault = FailsLintRun folder environment (names_of options) arguments fault
Fails folder environment options (Make tables fresh all repertoire output) fault = FailsToMake folder environment options tables repertoire.now fault
Fails folder environment options (Manifest arguments) fault = FailsManifestRun folder environment arguments fault
