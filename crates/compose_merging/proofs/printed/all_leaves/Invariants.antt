use Rattle.std.proofs.Common.{◌≡◌}
use Rattle.compose_lookup.specs.TextIndex.{leaf_ids}
use Rattle.compose_merging.proofs.printed.all_leaves.Given as goal

-- the leaves so far
abbrev pub invariant-loop-number : goal.invariant-loop-number
invariant-loop-number l = l.leaves.items ≡ leaf_ids l.number
