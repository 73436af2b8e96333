use Rattle.std.proofs.Common.{◌≡◌, map, take}
use Rattle.compose_runs.proofs.updating.source_names.Given as goal

-- the names of the sources so far
abbrev pub invariant-loop-index : goal.invariant-loop-index
invariant-loop-index l = map (λ name. name.now) l.names.items ≡ map (λ source. source.name) (take l.index l.sources)
