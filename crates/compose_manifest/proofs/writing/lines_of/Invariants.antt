use Rattle.std.proofs.Common.{◌≡◌, ◌++◌, drop, string_bytes}
use Rattle.compose_manifest.specs.Text as text
use Rattle.compose_manifest.proofs.writing.lines_of.Given as goal

-- the lines so far and those of the remaining sources are all
abbrev pub invariant-loop-source : goal.invariant-loop-source
invariant-loop-source l = string_bytes l.lines ++ text.manifest_bytes (drop l.source-index l.sources) ≡ text.manifest_bytes l.sources
