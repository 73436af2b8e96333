use Rattle.std.proofs.Common.{◌≡◌, take, map}
use Rattle.compose_c.specs.Arrays.{edge_of}
use Rattle.compose_c.proofs.packed.same_edges.Given as goal

-- the edges so far are the same
abbrev pub invariant-loop-index : goal.invariant-loop-index
invariant-loop-index l = take l.index l.edges ≡ map edge_of (take l.index l.others)
