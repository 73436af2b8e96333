use Rattle.std.proofs.Common.{◌≡◌, ◌+◌, ◌*◌, ◌++◌, length, flat_map, take}
use Rattle.std.specs.Int.{to_be_bytes, w32}
use Rattle.compose_wire.proofs.reply.append_keysyms.Given as goal

abbrev pub invariant-loop-keysym : goal.invariant-loop-keysym
invariant-loop-keysym l =
    (length l.bytes.items ≡ length l.initial.bytes.items + 4 * l.keysym-index)
    × (l.bytes.items ≡ l.initial.bytes.items ++ flat_map (to_be_bytes w32) (take l.keysym-index l.keysyms))
