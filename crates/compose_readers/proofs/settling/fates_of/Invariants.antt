use Rattle.std.proofs.Common.{◌≡◌, take}
use Rattle.compose_readers.specs.Fates.{fates_from}
use Rattle.compose_readers.proofs.settling.fates_of.Given as goal

-- the fates of the entries so far
abbrev pub invariant-loop-at : goal.invariant-loop-at
invariant-loop-at l = l.fates.items ≡ fates_from l.entries 0 (take l.at l.entries)
