use Rattle.std.proofs.Common.{◌≡◌, take}
use Rattle.compose_c.proofs.packed.same_nodes.Given as goal

-- the nodes so far are the same
abbrev pub invariant-loop-index : goal.invariant-loop-index
invariant-loop-index l = take l.index l.nodes ≡ take l.index l.others
