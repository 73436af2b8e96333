use Rattle.compose_lint.proofs.Leaving.{left_once, read_refused}
use Rattle.compose_lint.proofs.accepted.left_by.Goals as goal

pub returns-in-Ok : goal.returns-in-Ok
returns-in-Ok c = left_once c.args.accepted.now c.in-Ok.accepted c.args.rows.now c.leave_out.result c.in-Ok.ensures c.leave_out.ensures

pub returns-in-Err : goal.returns-in-Err
returns-in-Err c = read_refused c.args.accepted.now c.args.rows.now c.in-Err.fault c.in-Err.ensures
