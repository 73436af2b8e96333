use Rattle.std.proofs.Common.{◌≡◌, map, take}
use Rattle.compose_merge.specs.Merged.{listed_keys}
use Rattle.compose_merge.proofs.listed.lent.Given as goal

-- the sequences so far
abbrev pub invariant-loop-sequence : goal.invariant-loop-sequence
invariant-loop-sequence l = map (λ t. t.now) l.listed.items ≡ listed_keys (take l.sequence-index l.sequences)
