use Rattle.std.proofs.Common.{◌≡◌, ◌++◌, map, drop}
use Rattle.std.specs.Option.{option_map}
use Rattle.compose_lint.specs.Productions.{fed_sequence}
use Rattle.compose_lint.proofs.definition.fed_sequence.Given as goal

-- the keysyms so far, and those of the remaining keys, are those of all keys
abbrev pub invariant-loop-event : goal.invariant-loop-event
invariant-loop-event l = option_map (λ s. l.sequence.items ++ s) (fed_sequence l.names (map (λ e. e.now) (drop l.event-index l.events))) ≡ fed_sequence l.names (map (λ e. e.now) l.events)
