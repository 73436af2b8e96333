use Rattle.std.proofs.Common.{◌≡◌, take, string_bytes}
use Rattle.compose_runs.specs.Linting.{notes_in}
use Rattle.compose_runs.proofs.linting.notes_of.Given as goal

abbrev pub invariant-loop-read : goal.invariant-loop-read
invariant-loop-read l = string_bytes l.notes ≡ notes_in (take l.read-index l.tables)
