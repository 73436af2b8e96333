use Rattle.std.proofs.Common.{◌≡◌, ◌++◌, flat_map, take, string_bytes}
use Rattle.compose_service_runs.specs.Status.{change_line}
use Rattle.compose_service_runs.proofs.status.push_changes.Given as goal

-- the lines of the files so far
abbrev pub invariant-loop-change : goal.invariant-loop-change
invariant-loop-change l = string_bytes l.text ≡ string_bytes l.fn.text ++ flat_map change_line (take l.change-index l.changes)
