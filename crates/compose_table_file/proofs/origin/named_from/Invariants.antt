use Rattle.std.proofs.Common.{◌≡◌, take}
use Rattle.compose_table_file.specs.Origin.{named_from}
use Rattle.compose_table_file.proofs.origin.named_from.Given as goal

-- the sources before this one are named
abbrev pub invariant-loop-index : goal.invariant-loop-index
invariant-loop-index l = l.named ≡ named_from l.folder (take l.index l.sources)
