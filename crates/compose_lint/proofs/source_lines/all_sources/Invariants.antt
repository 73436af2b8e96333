use Rattle.std.proofs.Common.{◌≡◌, ◌++◌, drop}
use Rattle.compose_lint.specs.Lines.{all_sources, sources_from}
use Rattle.compose_lint.proofs.source_lines.all_sources.Given as goal

-- the sources so far, and the remaining ones, are all
abbrev pub invariant-loop-source : goal.invariant-loop-source
invariant-loop-source l = l.files.items ++ sources_from l.names l.sources l.is_all l.source (drop l.source l.sources) ≡ all_sources l.names l.sources l.is_all
