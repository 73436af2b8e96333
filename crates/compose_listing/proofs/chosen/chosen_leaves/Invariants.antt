use Rattle.std.proofs.Common.{◌≡◌}
use Rattle.std.specs.Prelude.{filter, option_copied}
use Rattle.compose_lookup.specs.TextIndex.{leaf_ids}
use Rattle.compose_listing.specs.Leaves.{is_chosen}
use Rattle.compose_listing.proofs.chosen.chosen_leaves.Given as goal

-- those of the leaves so far
abbrev pub invariant-loop-number : goal.invariant-loop-number
invariant-loop-number g l = l.chosen.items ≡ filter (is_chosen (g.T.ComposeTable.definitions l.listed.table.now) l.prefix (option_copied l.text)) (leaf_ids l.number)
