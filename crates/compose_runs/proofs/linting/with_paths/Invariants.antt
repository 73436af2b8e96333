use Rattle.std.proofs.Common.{◌≡◌, map, take}
use Rattle.compose_runs.specs.Linting.{table_of}
use Rattle.compose_runs.proofs.linting.with_paths.Given as goal

abbrev pub invariant-loop-read : goal.invariant-loop-read
invariant-loop-read l = l.pathed.items ≡ map (table_of l.skip_faulty) (take l.read-index l.tables)
