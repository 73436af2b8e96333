use Rattle.compose_stored.proofs.EachStep.{given_up, written}
use Rattle.compose_stored.proofs.steps.write_whole.Goals as goal

pub returns-in-Ok : goal.returns-in-Ok
returns-in-Ok g c = written c.args.name c.args.bytes.now (g.F.StateFiles.calls c.args.files.now) (g.F.StateFiles.calls c.clear.new.files) (g.F.StateFiles.calls c.write.new.self) c.clear.ensures c.in-Ok.ensures

pub returns-in-Err : goal.returns-in-Err
returns-in-Err g c = given_up c.args.name c.in-Err.why (g.F.StateFiles.calls c.args.files.now) (g.F.StateFiles.calls c.clear.new.files) (g.F.StateFiles.calls c.write.new.self) (g.F.StateFiles.calls c.clear-in-Err.new.files) c.clear.ensures c.in-Err.ensures c.clear-in-Err.ensures
