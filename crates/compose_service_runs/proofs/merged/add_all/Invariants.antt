use Rattle.std.proofs.Common.{◌≡◌, ◌++◌, take}
use Rattle.compose_service_runs.proofs.merged.add_all.Given as goal

-- the sources before this one are added
abbrev pub invariant-loop-index : goal.invariant-loop-index
invariant-loop-index l = l.sources ≡ l.fn.sources ++ take l.index l.more
