use Rattle.std.proofs.Common.{◌≡◌, ◌≤◌, ◌-◌, ◌++◌, map, take}
use Rattle.std.specs.Prelude.{filter}
use Rattle.compose_places.specs.Places.{is_definition_line, place_of}
use Rattle.compose_places.proofs.places.places_in.Given as goal

-- the places so far, and those among the lines that are left, are those of all lines
abbrev pub invariant-loop-lines : goal.invariant-loop-lines
invariant-loop-lines l = record {
  decided : l.places.items ++ map place_of (filter (λ v. is_definition_line v.bytes) (take (1000000 - l.lines) l.visits)) ≡ map place_of (filter (λ v. is_definition_line v.bytes) (take 1000000 l.fn.visits));
  read : l.lines ≤ 1000000;
}

abbrev pub decreases-loop-lines : goal.decreases-loop-lines
decreases-loop-lines l = 1000000 - l.lines
