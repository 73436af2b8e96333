use Rattle.std.proofs.Common.{◌≡◌, ◌++◌, map, drop}
use Rattle.std.specs.List.{filter}
use Rattle.compose_listed_as.specs.Judged.{is_other}
use Rattle.compose_listed_as.proofs.judged.others.Given as goal

-- those before, and those that follow
abbrev pub invariant-loop-one : goal.invariant-loop-one
invariant-loop-one l = map (λ j. j.now) l.others.items ++ filter is_other (drop l.one-index l.all) ≡ filter is_other l.all
