use Rattle.std.proofs.Common.{◌≡◌, ◌++◌, drop, flat_map}
use Rattle.std.specs.Int.{to_be_bytes, w32}
use Rattle.compose_table_file.proofs.fresh.fresh_bytes.Given as goal

-- the bytes so far and those of the remaining keysyms are the whole
abbrev pub invariant-loop-keysym : goal.invariant-loop-keysym
invariant-loop-keysym l = l.bytes.items ++ flat_map (to_be_bytes w32) (drop l.keysym-index l.keysyms) ≡ flat_map (to_be_bytes w32) l.keysyms
