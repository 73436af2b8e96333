use Rattle.std.proofs.Common.{◌≡◌, drop, true}
use Rattle.std.specs.List.{list_all}
use Rattle.std.specs.Option.{option_map_or}
use Rattle.compose_compare.specs.Change.{is_harmless}
use Rattle.compose_compare.proofs.comparison.are_added.Given as goal

-- the changes that are left are harmless exactly if all of them are
abbrev pub invariant-loop-slot : goal.invariant-loop-slot
invariant-loop-slot l = list_all (λ c. option_map_or is_harmless c true) (drop l.slot-index l.changes) ≡ list_all (λ c. option_map_or is_harmless c true) l.changes
