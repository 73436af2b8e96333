use Rattle.compose_stored.proofs.EachStep.{moved_and_waited, waited}
use Rattle.compose_stored.proofs.steps.move_to.Goals as goal

pub returns-in-Ok : goal.returns-in-Ok
returns-in-Ok g c = moved_and_waited c.args.from c.args.to (g.F.StateFiles.calls c.args.files.now) (g.F.StateFiles.calls c.rename.new.self) (g.F.StateFiles.calls c.sync.new.self) c.in-Ok.ensures (waited (g.F.StateFiles.calls c.rename.new.self) (g.F.StateFiles.calls c.sync.new.self) c.sync.result c.sync.ensures)
