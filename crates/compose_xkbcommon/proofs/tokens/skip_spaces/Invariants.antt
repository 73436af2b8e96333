use Rattle.std.proofs.Common.{◌≡◌, length}
use Rattle.compose_xkbcommon.specs.Grammar.{skip_spaces}
use Rattle.compose_xkbcommon.proofs.tokens.skip_spaces.Given as goal

abbrev pub invariant-loop-first : goal.invariant-loop-first
invariant-loop-first l = skip_spaces l.rest ≡ skip_spaces l.fn.bytes

abbrev pub decreases-loop-first : goal.decreases-loop-first
decreases-loop-first l = length l.rest
