use Rattle.std.proofs.Common.{◌≡◌, ◌++◌, length, map, drop}
use Rattle.std.specs.Option.{option_map}
use Rattle.compose_places.specs.Counting.{sequence_named}
use Rattle.compose_explaining.proofs.sides.keysyms_of.Given as goal

-- the keysyms so far, and those of the keys that are left, are those of all keys
abbrev pub invariant-loop-key : goal.invariant-loop-key
invariant-loop-key l = record {
  read : option_map (λ s. l.sequence.items ++ s) (sequence_named l.names (map (λ key. key.now) (drop l.key-index l.keys))) ≡ sequence_named l.names (map (λ key. key.now) l.keys);
  count : length l.sequence.items ≡ l.key-index;
}
