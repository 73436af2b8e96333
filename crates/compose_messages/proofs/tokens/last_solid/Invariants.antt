use Rattle.std.proofs.Common.{◌≡◌, drop}
use Rattle.std.specs.Prelude.{None}
use Rattle.compose_messages.specs.Tokens.{last_solid}
use Rattle.compose_messages.proofs.tokens.last_solid.Given as goal

-- what is found so far, and the bytes that are left, decide
abbrev pub invariant-loop-byte : goal.invariant-loop-byte
invariant-loop-byte l = last_solid l.last (drop l.byte-index l.bytes) ≡ last_solid None l.bytes
