use Rattle.compose_stored.proofs.Seen.{rewritten}
use Rattle.compose_stored.proofs.storing.rewrite.Goals as goal

pub returns : goal.returns
returns g c = rewritten c.args.bytes.now c.replace.result (g.F.StateFiles.calls c.args.files.now) (g.F.StateFiles.calls c.replace.new.files) c.replace.ensures
