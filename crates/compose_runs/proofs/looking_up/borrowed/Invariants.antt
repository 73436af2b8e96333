use Rattle.std.proofs.Common.{◌≡◌, map, take, string_bytes}
use Rattle.compose_runs.proofs.looking_up.borrowed.Given as goal

-- the texts so far
abbrev pub invariant-loop-text : goal.invariant-loop-text
invariant-loop-text l = map (λ text. text.now) l.lent.items ≡ map string_bytes (take l.text-index l.texts)
