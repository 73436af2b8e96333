use Rattle.std.proofs.Common.{◌≡◌, drop}
use Rattle.compose_lint.specs.Lost.{has_sign_after}
use Rattle.compose_lint.proofs.signs.has_sign_after.Given as goal

-- there is no sign so far
abbrev pub invariant-loop-byte : goal.invariant-loop-byte
invariant-loop-byte l = has_sign_after l.before (drop l.byte-index l.line) ≡ has_sign_after l.first l.line
