use Rattle.std.proofs.Common.{rules}
use Rattle.compose_table_file.proofs.Keysyms.{no_keysyms}
use Rattle.compose_table_file.proofs.fresh.read_fresh.Goals as goal

pub returns-in_default : goal.returns-in_default
returns-in_default c =
    no_keysyms c.args.bytes.now c.loop-rest.keysyms.items c.loop-rest.rest.now c.loop-rest.invariant.read c.loop-rest.invariant.keysyms (search rules) (search rules)
