use Rattle.compose_stored.proofs.EachStep.{waited}
use Rattle.compose_stored.proofs.Seen.{dropped, not_dropped}
use Rattle.compose_stored.proofs.storing.drop_next.Goals as goal

pub returns-in-Ok : goal.returns-in-Ok
returns-in-Ok g c = dropped (g.F.StateFiles.calls c.args.files.now) (g.F.StateFiles.calls c.remove.new.self) (g.F.StateFiles.calls c.sync.new.self) tt c.in-Ok.ensures (waited (g.F.StateFiles.calls c.remove.new.self) (g.F.StateFiles.calls c.sync.new.self) c.sync.result c.sync.ensures)

pub returns-in-Err : goal.returns-in-Err
returns-in-Err g c = not_dropped c.in-Err.why (g.F.StateFiles.calls c.args.files.now) (g.F.StateFiles.calls c.remove.new.self) c.in-Err.ensures
