use Rattle.compose_stored.proofs.EachStep.{cleared}
use Rattle.compose_stored.proofs.steps.clear.Goals as goal

pub returns : goal.returns
returns g c = cleared c.args.name (g.F.StateFiles.calls c.args.files.now) (g.F.StateFiles.calls c.remove.new.self) c.remove.result c.remove.ensures
