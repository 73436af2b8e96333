use Rattle.std.proofs.Common.{◌≡◌, ◌%◌, get_or, map, take}
use Rattle.compose_read.specs.declared.rows.RowSpan.{RowSpan}
use Rattle.compose_read.proofs.sorting.picked_spans.Given as goal

abbrev pub invariant-loop-sort_key : goal.invariant-loop-sort_key
invariant-loop-sort_key l = (d : RowSpan) → l.picked_spans.items ≡ map (λ n. get_or l.spans (n % 131072) d) (take l.sort_key-index l.sort_keys)
