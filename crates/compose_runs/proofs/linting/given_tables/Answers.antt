use Rattle.std.proofs.Common.{rules, ◌≡◌, ◌∙◌, ◌+◌, [], List, ℕ, Bor, map, take, drop, get_or, inr, sym, subst}
use Rattle.std.specs.Prelude.{Option, Some, Err}
use Rattle.compose_given.specs.Faults.{FailsChosenTable, OrMemory}
use Rattle.compose_runs.specs.Faults.{FailsTables}
use Rattle.compose_runs.specs.Linting.{AreReadTables, IsReadTable}
use Rattle.compose_given.proofs.Failing.{fails}
use Rattle.compose_runs.proofs.Zipped.{around, zip_next}
use Rattle.compose_runs.proofs.linting.given_tables.Goals as goal

pub loop-path-preserved : goal.loop-path-preserved
loop-path-preserved g c =
    let folder = c.args.files.now.holds in let environment = c.args.environment.now in let places = c.args.places in let paths = c.args.paths.now in let i = c.loop-path.path-index in
    let none : Bor (List ℕ) = record { ref_ptr = (0, 0); now = [] } in let table = c.in_ok-table.table in let kept = c.loop-path.invariant.kept in record {
      kept = c.in_ok-table.ensures.kept ∙ kept;
      read = subst (λ read. AreReadTables folder environment places (map (λ (p : Bor (List ℕ)). Some p.now) (take (i + 1) paths)) read) (sym c.in_ok-push.ensures.items)
          (zip_next (IsReadTable folder environment places) (λ (p : Bor (List ℕ)). Some p.now) paths i none c.loop-path.read.items table c.loop-path-test.true c.loop-path.invariant.read
          (subst (λ f. IsReadTable f environment places (Some (get_or paths i none).now) table) kept c.in_ok-table.ensures.read));
    }

pub returns-in_err-table-clause-fault : goal.returns-in_err-table-clause-fault
returns-in_err-table-clause-fault g c =
    let folder = c.args.files.now.holds in let environment = c.args.environment.now in let places = c.args.places in let paths = c.args.paths.now in let i = c.loop-path.path-index in
    let none : Bor (List ℕ) = record { ref_ptr = (0, 0); now = [] } in let given : Bor (List ℕ) → Option (List ℕ) = λ p. Some p.now in let fault = c.in_err-table.field-0.0 in
    let is : c.from_residual.result ≡ Err fault = search rules in
    fails (OrMemory (FailsTables folder environment places (map given paths))) c.from_residual.result fault is
    (inr (record {
      before = map given (take i paths);
      file = given (get_or paths i none);
      after = map given (drop (i + 1) paths);
      is = around given paths i none c.loop-path-test.true;
      tables = c.loop-path.read.items;
      read = c.loop-path.invariant.read;
      fails = subst (λ f. FailsChosenTable f environment places (given (get_or paths i none)) fault) c.loop-path.invariant.kept c.in_err-table.ensures.fault;
    }))
