use Rattle.std.proofs.Common.{◌≡◌, ◌++◌, map, take}
use Rattle.compose_diff_rows.specs.Rows.{reported_row, reported_sequence, new_row}
use Rattle.compose_diff_rows.proofs.rows.add_new_rows.Given as goal

-- each sequence so far has its row
abbrev pub invariant-loop-sequence : goal.invariant-loop-sequence
invariant-loop-sequence l = map reported_row l.rows.items ≡ map reported_row l.fn.rows.items ++ map new_row (map reported_sequence (take l.sequence-index l.reported))
