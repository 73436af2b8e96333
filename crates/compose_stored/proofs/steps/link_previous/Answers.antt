use Rattle.compose_stored.proofs.EachStep.{linked_previous, not_linked}
use Rattle.compose_stored.proofs.steps.link_previous.Goals as goal

pub returns-in-Ok : goal.returns-in-Ok
returns-in-Ok g c = linked_previous c.rename.result (g.F.StateFiles.calls c.args.files.now) (g.F.StateFiles.calls c.link.new.self) (g.F.StateFiles.calls c.rename.new.self) c.in-Ok.ensures c.rename.ensures

pub returns-in-Err : goal.returns-in-Err
returns-in-Err g c = not_linked c.in-Err.why (g.F.StateFiles.calls c.args.files.now) (g.F.StateFiles.calls c.link.new.self) c.in-Err.ensures
