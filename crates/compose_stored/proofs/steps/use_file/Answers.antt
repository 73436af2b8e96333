use Rattle.compose_stored.proofs.EachStep.{not_used, used}
use Rattle.compose_stored.proofs.steps.use_file.Goals as goal

pub returns-in-Ok : goal.returns-in-Ok
returns-in-Ok g c = used c.args.from c.move_to.result (g.F.StateFiles.calls c.args.files.now) (g.F.StateFiles.calls c.keep_previous.new.files) (g.F.StateFiles.calls c.move_to.new.files) tt c.in-Ok.ensures c.move_to.ensures

pub returns-in-Err : goal.returns-in-Err
returns-in-Err g c = not_used c.args.from c.in-Err.why (g.F.StateFiles.calls c.args.files.now) (g.F.StateFiles.calls c.keep_previous.new.files) c.in-Err.ensures
