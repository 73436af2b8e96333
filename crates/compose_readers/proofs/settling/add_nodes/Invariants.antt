use Rattle.std.proofs.Common.{◌≡◌, map, take}
use Rattle.compose_readers.specs.Entries.{with_nodes}
use Rattle.compose_readers.proofs.settling.add_nodes.Given as goal

-- the shorter beginnings are nodes
abbrev pub invariant-loop-len : goal.invariant-loop-len
invariant-loop-len l = map (λ k. k.now) l.nodes.keys ≡ with_nodes (map (λ k. k.now) l.fn.nodes.keys) (take l.len l.keys)
