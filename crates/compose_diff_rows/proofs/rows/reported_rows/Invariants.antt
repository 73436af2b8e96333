use Rattle.std.proofs.Common.{◌≡◌, map, take}
use Rattle.compose_diff_rows.specs.Rows.{written, reported_row, reported_sequence, old_row}
use Rattle.compose_diff_rows.proofs.rows.reported_rows.Given as goal

-- each sequence so far has its row
abbrev pub invariant-loop-reported : goal.invariant-loop-reported
invariant-loop-reported g l = map reported_row l.rows.items ≡ map (old_row l.names (written g.T.ComposeTable.definitions l.new)) (map reported_sequence (take l.reported-index l.of_old))
