use Rattle.std.proofs.Common.{◌≡◌, ℕ, ◌+◌, ◌*◌, ◌<◌, length, get_or}
use Rattle.compose_read.specs.SortKeys.{prefix_sort_key_at}
use Rattle.compose_read.specs.declared.rows.RowSpan.{RowSpan}
use Rattle.compose_read.proofs.sorting.sort_keys.Given as goal

abbrev pub invariant-loop-index : goal.invariant-loop-index
invariant-loop-index l = record {
  count : length l.sort_keys.items ≡ l.index;
  each : (d : RowSpan) (k : ℕ) → k < l.index → get_or l.sort_keys.items k 0 ≡ prefix_sort_key_at l.keysyms (get_or l.spans k d) * 131072 + k;
}
