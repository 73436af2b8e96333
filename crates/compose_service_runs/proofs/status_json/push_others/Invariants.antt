use Rattle.std.proofs.Common.{◌≡◌, ◌++◌, flat_map, take, string_bytes}
use Rattle.compose_service_runs.specs.Status.{other_changes}
use Rattle.compose_service_runs.proofs.status_json.push_others.Given as goal

-- the files so far
abbrev pub invariant-loop-other : goal.invariant-loop-other
invariant-loop-other l = string_bytes l.text ≡ string_bytes l.fn.text ++ other_changes (take l.other-index l.changes)
