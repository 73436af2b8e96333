use Rattle.std.proofs.Common.{rules, ◌≡◌, ◌∙◌, inl, inr, map, subst, option_copied}
use Rattle.std.specs.Prelude.{Err}
use Rattle.compose_runs.specs.DiffFiles.{IsAccepted}
use Rattle.compose_runs.specs.Faults.{FailsAccepted, FailsLint, FailsLintRun, FailsTables}
use Rattle.compose_given.specs.Faults.{OrMemory}
use Rattle.compose_runs.specs.Linting.{AreReadTables, asked_files}
use Rattle.compose_given.proofs.Failing.{fails, or_map}
use Rattle.compose_runs.proofs.linting.LintFiles.read.Goals as goal

pub returns-clause-read : goal.returns-clause-read
returns-clause-read g c =
    let environment = c.args.environment.now in let arguments = c.args.arguments.now in let places = c.in_ok-places.places in
    let names_kept = c.in_ok-names.ensures.kept in let tables_kept = c.in_ok-tables.ensures.kept ∙ names_kept in
    record {
      are_names = c.in_ok-names.ensures.read;
      places = places;
      are_places = c.in_ok-places.ensures;
      are_tables = subst (λ paths. AreReadTables c.args.files.now.holds environment places (asked_files paths) c.in_ok-tables.tables.items) c.deref.ensures.value
          (subst (λ f. AreReadTables f environment places (asked_files c.deref.result.now) c.in_ok-tables.tables.items) names_kept c.in_ok-tables.ensures.read);
      is_accepted = subst (λ f. IsAccepted f (option_copied arguments.accept) c.in_ok-accepted.accepted.items) tables_kept c.in_ok-accepted.ensures.read;
    }

pub returns-in_err-names-clause-fault : goal.returns-in_err-names-clause-fault
returns-in_err-names-clause-fault g c =
    let fault = c.in_err-names.field-0.0 in
    let is : c.from_residual.result ≡ Err fault = search rules in
    fails (FailsLintRun c.args.files.now.holds c.args.environment.now (map (λ name. name.now) c.args.names.now) c.args.arguments.now) c.from_residual.result fault is (inr (inl c.in_err-names.ensures.fault))

pub returns-in_err-places-clause-fault : goal.returns-in_err-places-clause-fault
returns-in_err-places-clause-fault g c =
    let fault = c.in_err-places.field-0.0 in
    let is : c.from_residual-in_err-places.result ≡ Err fault = search rules in
    fails (FailsLintRun c.args.files.now.holds c.args.environment.now (map (λ name. name.now) c.args.names.now) c.args.arguments.now) c.from_residual-in_err-places.result fault is
    (inr (inr ((c.in_ok-names.names, c.in_ok-names.ensures.read), inl c.in_err-places.ensures)))

pub returns-in_err-tables-clause-fault : goal.returns-in_err-tables-clause-fault
returns-in_err-tables-clause-fault g c =
    let fault = c.in_err-tables.field-0.0 in let folder = c.args.files.now.holds in let environment = c.args.environment.now in let arguments = c.args.arguments.now in
    let places = c.in_ok-places.places in let names = map (λ name. name.now) c.args.names.now in
    let is : c.from_residual-in_err-tables.result ≡ Err fault = search rules in
    let asked = asked_files arguments.files.items in
    let found : OrMemory (FailsTables folder environment places asked) fault = subst (λ paths. OrMemory (FailsTables folder environment places (asked_files paths)) fault) c.deref.ensures.value
    (subst (λ f. OrMemory (FailsTables f environment places (asked_files c.deref.result.now)) fault) c.in_ok-names.ensures.kept c.in_err-tables.ensures.fault) in
    fails (FailsLintRun folder environment names arguments) c.from_residual-in_err-tables.result fault is
    (or_map (FailsTables folder environment places asked) (FailsLint folder environment names arguments) fault (λ tables. inr ((c.in_ok-names.names, c.in_ok-names.ensures.read), inr (places, c.in_ok-places.ensures, inl tables))) found)

pub returns-in_err-accepted-clause-fault : goal.returns-in_err-accepted-clause-fault
returns-in_err-accepted-clause-fault g c =
    let fault = c.in_err-accepted.field-0.0 in let folder = c.args.files.now.holds in let environment = c.args.environment.now in let arguments = c.args.arguments.now in
    let places = c.in_ok-places.places in let names_kept = c.in_ok-names.ensures.kept in let tables_kept = c.in_ok-tables.ensures.kept ∙ names_kept in
    let is : c.from_residual-in_err-accepted.result ≡ Err fault = search rules in
    fails (FailsLintRun folder environment (map (λ name. name.now) c.args.names.now) arguments) c.from_residual-in_err-accepted.result fault is
    (inr (inr (
      (c.in_ok-names.names, c.in_ok-names.ensures.read),
      inr (
        places,
        c.in_ok-places.ensures,
        inr (
          (
            c.in_ok-tables.tables.items,
            subst (λ paths. AreReadTables folder environment places (asked_files paths) c.in_ok-tables.tables.items) c.deref.ensures.value
                (subst (λ f. AreReadTables f environment places (asked_files c.deref.result.now) c.in_ok-tables.tables.items) names_kept c.in_ok-tables.ensures.read),
          ),
          subst (λ f. FailsAccepted f (option_copied arguments.accept) fault) tables_kept c.in_err-accepted.ensures.fault,
        ),
      ),
    )))
