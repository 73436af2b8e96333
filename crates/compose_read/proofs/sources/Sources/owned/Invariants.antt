use Rattle.std.proofs.Common.{◌≡◌, take}
use Rattle.compose_read.proofs.sources.Sources.owned.Given as goal

-- the sources before this one are copied
abbrev pub invariant-loop-index : goal.invariant-loop-index
invariant-loop-index l = l.owned ≡ take l.index l.self
