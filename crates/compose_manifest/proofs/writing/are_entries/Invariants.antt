use Rattle.std.proofs.Common.{◌≡◌, drop}
use Rattle.compose_manifest.specs.Text as text
use Rattle.compose_manifest.proofs.writing.are_entries.Given as goal

-- the remaining entries decide
abbrev pub invariant-loop-index : goal.invariant-loop-index
invariant-loop-index l = text.are_entries (drop l.index l.entries) (drop l.index l.sources) ≡ text.are_entries l.entries l.sources
