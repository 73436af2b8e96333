use Rattle.std.proofs.Common.{◌≡◌, length}
use Rattle.std.specs.List.{list_any}
use Rattle.compose_text.specs.Lines.{lines_of}
use Rattle.compose_messages.specs.Hints.{is_table_line}
use Rattle.compose_messages.proofs.hints.has_table_line.Given as goal

-- a line of a table is among those that are left
abbrev pub invariant-loop-line : goal.invariant-loop-line
invariant-loop-line l = list_any is_table_line (lines_of l.rest) ≡ list_any is_table_line (lines_of l.bytes)

abbrev pub decreases-loop-line : goal.decreases-loop-line
decreases-loop-line l = length l.rest
