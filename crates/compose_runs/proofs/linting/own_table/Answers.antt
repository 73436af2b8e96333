use Rattle.std.proofs.Common.{rules, ◌≡◌, [], ◌∷◌, inr, refl}
use Rattle.std.specs.Prelude.{None, Err}
use Rattle.compose_runs.specs.Faults.{FailsTables}
use Rattle.compose_given.specs.Faults.{OrMemory}
use Rattle.compose_given.proofs.Failing.{fails}
use Rattle.compose_runs.proofs.linting.own_table.Goals as goal

pub returns-in_err-read_table-clause-fault : goal.returns-in_err-read_table-clause-fault
returns-in_err-read_table-clause-fault g c =
    let fault = c.in_err-read_table.field-0.0 in
    let is : c.from_residual.result ≡ Err fault = search rules in
    fails (OrMemory (FailsTables c.args.files.now.holds c.args.environment.now c.args.places (None ∷ []))) c.from_residual.result fault is
    (inr (record { before = []; file = None; after = []; is = refl; tables = []; read = tt; fails = c.in_err-read_table.ensures.fault }))
