use Rattle.std.proofs.Common.{◌≡◌, map, string_bytes}
use Rattle.compose_input.proofs.tables.paths_of.Given as goal

-- the paths of the files so far
abbrev pub invariant-loop-path : goal.invariant-loop-path
invariant-loop-path l = map string_bytes l.paths.items ≡ map (λ source. source.path) l.yielded
