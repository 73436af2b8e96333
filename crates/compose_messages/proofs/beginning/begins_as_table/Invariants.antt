use Rattle.std.proofs.Common.{◌≡◌, length}
use Rattle.compose_messages.specs.Beginning.{begins_as_table}
use Rattle.compose_messages.proofs.beginning.begins_as_table.Given as goal

-- the lines that are left decide it for all lines
abbrev pub invariant-loop-line : goal.invariant-loop-line
invariant-loop-line l = begins_as_table l.rest ≡ begins_as_table l.bytes

abbrev pub decreases-loop-line : goal.decreases-loop-line
decreases-loop-line l = length l.rest
