use Rattle.compose_stored.proofs.Seen.{handed_over}
use Rattle.compose_stored.proofs.storing.hand_over.Goals as goal

pub returns : goal.returns
returns g c = handed_over c.args.bytes.now c.replace.result (g.F.StateFiles.calls c.args.files.now) (g.F.StateFiles.calls c.replace.new.files) c.replace.ensures
