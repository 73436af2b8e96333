use Rattle.std.proofs.Common.{◌≡◌, map, take, string_bytes}
use Rattle.compose_runs.proofs.written_keys.borrowed.Given as goal

-- the names before this one
abbrev pub invariant-loop-key : goal.invariant-loop-key
invariant-loop-key l = map (λ name. name.now) l.names.items ≡ map string_bytes (take l.key-index l.keys)
