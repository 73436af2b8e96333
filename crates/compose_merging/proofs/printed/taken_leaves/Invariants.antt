use Rattle.std.proofs.Common.{◌≡◌, filter}
use Rattle.compose_lookup.specs.TextIndex.{leaf_ids}
use Rattle.compose_merging.specs.Treatments.{is_taken_leaf}
use Rattle.compose_merging.proofs.printed.taken_leaves.Given as goal

-- those of the leaves so far that are taken
abbrev pub invariant-loop-number : goal.invariant-loop-number
invariant-loop-number l = l.leaves.items ≡ filter (is_taken_leaf l.treatments) (leaf_ids l.number)
