use Rattle.compose_stored.proofs.Seen.{taken}
use Rattle.compose_stored.proofs.storing.use_next.Goals as goal

pub returns : goal.returns
returns g c = taken c.use_file.result (g.F.StateFiles.calls c.args.files.now) (g.F.StateFiles.calls c.use_file.new.files) c.use_file.ensures
