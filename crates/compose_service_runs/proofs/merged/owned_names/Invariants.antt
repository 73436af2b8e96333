use Rattle.std.proofs.Common.{◌≡◌, map, take, string_bytes}
use Rattle.compose_service_runs.proofs.merged.owned_names.Given as goal

-- the names so far are copied
abbrev pub invariant-loop-name : goal.invariant-loop-name
invariant-loop-name l = map string_bytes l.owned.items ≡ map (λ name. name.now) (take l.name-index l.name-items)
