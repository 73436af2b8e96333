use Rattle.std.proofs.Common.{map, take, string_bytes}
use Rattle.compose_runs.specs.WrittenKeys.{AreNamed}
use Rattle.compose_runs.proofs.written_keys.named_keys.Given as goal

-- the names of the words before this one
abbrev pub invariant-loop-word : goal.invariant-loop-word
invariant-loop-word l = AreNamed l.names (map (λ word. word.now) (take l.word-index l.words)) (map string_bytes l.keys.items)
