use Rattle.std.proofs.Common.{◌≡◌, map, take}
use Rattle.compose_places.proofs.sequence_list.sequences_of.Given as goal

-- the sequences so far are those of the definitions that were read
abbrev pub invariant-loop-index : goal.invariant-loop-index
invariant-loop-index l = l.sequences ≡ map (λ d. d.sequence) (take l.index l.definitions)
