use Rattle.std.proofs.Common.{◌≡◌, drop}
use Rattle.std.specs.Option.{option_or}
use Rattle.compose_places.specs.Last.{last_from, last_with}
use Rattle.compose_details.proofs.definitions.last_with.Given as goal

-- the last of those that are left, or else of those so far
abbrev pub invariant-loop-index : goal.invariant-loop-index
invariant-loop-index l = option_or (last_from l.index (drop l.index l.definitions) l.sequence) l.last ≡ last_with l.definitions l.sequence
