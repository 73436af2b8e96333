use Rattle.compose_stored.proofs.EachStep.{kept, not_kept}
use Rattle.compose_stored.proofs.steps.keep_previous.Goals as goal

pub returns-in-Ok : goal.returns-in-Ok
returns-in-Ok g c = kept (g.F.StateFiles.calls c.args.files.now) (g.F.StateFiles.calls c.clear.new.files) (g.F.StateFiles.calls c.link_previous.new.files) tt c.clear.ensures c.in-Ok.ensures

pub returns-in-Err : goal.returns-in-Err
returns-in-Err g c = not_kept c.remove.result c.in-Err.field-0 (g.F.StateFiles.calls c.args.files.now) (g.F.StateFiles.calls c.clear.new.files) (g.F.StateFiles.calls c.link_previous.new.files) (g.F.StateFiles.calls c.remove.new.self) c.clear.ensures c.in-Err.ensures c.remove.ensures
