use Rattle.std.proofs.Common.{◌≡◌, ◌+◌, ◌*◌, length, flat_map, arith}
use Rattle.std.proofs.lemmas.Grind.{common_steps}
use Rattle.std.specs.Int.{to_be_bytes, w32}
use Rattle.compose_wire.proofs.Keysyms.{keysym_bytes_length}
use Rattle.compose_wire.proofs.reply.state.Goals as goal

pub returns : goal.returns
returns c =
    let long : length c.args.pending.now * 4 + 2 ≡ length (flat_map (to_be_bytes w32) c.args.pending.now) + 2 = omega (arith, keysym_bytes_length c.args.pending.now) in
    grind (arith, common_steps)
