use Rattle.keysym_core.proofs.HeaderIsRead.{header_is_read}
use Rattle.keysym_core.proofs.names.Names.built_in.Goals as goal

pub returns : goal.returns
returns c = header_is_read
