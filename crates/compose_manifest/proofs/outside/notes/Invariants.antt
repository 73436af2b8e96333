use Rattle.std.proofs.Common.{◌≡◌, ◌++◌, drop, string_bytes}
use Rattle.std.specs.Prelude.{option_copied}
use Rattle.compose_manifest.specs.Outside as outside
use Rattle.compose_manifest.proofs.outside.notes.Given as goal

-- the lines so far and those for the remaining sources are all
abbrev pub invariant-loop-source : goal.invariant-loop-source
invariant-loop-source l =
    string_bytes l.text ++ outside.notes l.tree (option_copied l.root) (drop l.source-index l.sources) ≡ outside.notes l.tree (option_copied l.root) l.sources
