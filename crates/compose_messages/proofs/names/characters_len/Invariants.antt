use Rattle.std.proofs.Common.{◌≡◌, ◌+◌, drop}
use Rattle.compose_messages.specs.Places.{characters_len}
use Rattle.compose_messages.proofs.names.characters_len.Given as goal

-- the end of the characters that are left comes this much further on
abbrev pub invariant-loop-at : goal.invariant-loop-at
invariant-loop-at l = l.at + characters_len l.left (drop l.at l.bytes) ≡ characters_len l.count l.bytes
