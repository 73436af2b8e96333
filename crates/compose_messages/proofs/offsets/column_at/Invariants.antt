use Rattle.std.proofs.Common.{◌≡◌, ◌≤◌, ◌+◌, take}
use Rattle.std.specs.List.{count_by}
use Rattle.compose_messages.specs.Places.{begins_character}
use Rattle.compose_messages.proofs.offsets.column_at.Given as goal

abbrev pub invariant-loop-byte : goal.invariant-loop-byte
invariant-loop-byte l = (l.column ≡ 1 + count_by begins_character (take l.byte-index l.byte-items)) × (l.column ≤ 1 + l.byte-index)
