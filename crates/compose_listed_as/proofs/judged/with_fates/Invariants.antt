use Rattle.std.proofs.Common.{◌≡◌, ◌++◌, drop}
use Rattle.compose_listed_as.specs.Judged.{with_fates}
use Rattle.compose_listed_as.proofs.judged.with_fates.Given as goal

-- those before, and those that follow
abbrev pub invariant-loop-at : goal.invariant-loop-at
invariant-loop-at l = l.all.items ++ with_fates (drop l.at l.told) (drop l.at l.fates) ≡ with_fates l.told l.fates
