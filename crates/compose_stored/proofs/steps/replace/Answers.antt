use Rattle.compose_stored.proofs.EachStep.{replaced}
use Rattle.compose_stored.proofs.steps.replace.Goals as goal

pub returns-in-Ok : goal.returns-in-Ok
returns-in-Ok g c = replaced c.args.new c.args.name c.args.bytes.now c.move_to.result (g.F.StateFiles.calls c.args.files.now) (g.F.StateFiles.calls c.write_whole.new.files) (g.F.StateFiles.calls c.move_to.new.files) c.in-Ok.ensures c.move_to.ensures
