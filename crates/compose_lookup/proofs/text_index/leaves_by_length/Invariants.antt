use Rattle.std.proofs.Common.{◌≡◌, ◌-◌}
use Rattle.std.specs.Prelude.{flat_map}
use Rattle.std.specs.List.{range_with_len}
use Rattle.compose_lookup.specs.TextIndex.{of_length}
use Rattle.compose_lookup.proofs.text_index.leaves_by_length.Given as goal

-- those of fewer keys are there
abbrev pub invariant-loop-keys : goal.invariant-loop-keys
invariant-loop-keys l = l.leaves.items ≡ flat_map (of_length l.lengths l.these) (range_with_len 1 (l.keys - 1))
