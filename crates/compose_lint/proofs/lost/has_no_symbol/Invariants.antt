use Rattle.std.proofs.Common.{◌≡◌, map, drop}
use Rattle.std.specs.List.{list_any}
use Rattle.compose_lint.specs.Lost.{is_no_symbol}
use Rattle.compose_lint.proofs.lost.has_no_symbol.Given as goal

-- the remaining keys decide for all keys
abbrev pub invariant-loop-event : goal.invariant-loop-event
invariant-loop-event l = list_any is_no_symbol (map (λ e. e.now) (drop l.event-index l.events)) ≡ list_any is_no_symbol (map (λ e. e.now) l.events)
