use Rattle.compose_stored.proofs.Seen.{not_stored, stored}
use Rattle.compose_stored.proofs.storing.store.Goals as goal

pub returns-in-Ok : goal.returns-in-Ok
returns-in-Ok g c = stored c.args.bytes.now c.use_file.result (g.F.StateFiles.calls c.args.files.now) (g.F.StateFiles.calls c.write_whole.new.files) (g.F.StateFiles.calls c.use_file.new.files) c.in-Ok.ensures c.use_file.ensures

pub returns-in-Err : goal.returns-in-Err
returns-in-Err g c = not_stored c.args.bytes.now c.in-Err.why (g.F.StateFiles.calls c.args.files.now) (g.F.StateFiles.calls c.write_whole.new.files) c.in-Err.ensures
