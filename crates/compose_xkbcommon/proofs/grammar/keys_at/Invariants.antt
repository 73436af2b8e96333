use Rattle.std.proofs.Common.{◌≡◌, ◌-◌, length, map}
use Rattle.compose_xkbcommon.specs.Grammar.{keys_at}
use Rattle.compose_xkbcommon.specs.Scanned.{with_keys}
use Rattle.compose_xkbcommon.proofs.grammar.keys_at.Given as goal

-- the keys so far come before those of the rest
abbrev pub invariant-loop-behind : goal.invariant-loop-behind
invariant-loop-behind l = with_keys (map (λ key. key.now) l.keys.items) (keys_at (10 - length l.keys.items) l.rest) ≡ keys_at 10 l.fn.first

abbrev pub decreases-loop-behind : goal.decreases-loop-behind
decreases-loop-behind l = 10 - length l.keys.items
