use Rattle.std.proofs.Common.{◌≡◌, map, take, string_bytes}
use Rattle.compose_runs.proofs.written_keys.copied.Given as goal

-- the words before this one
abbrev pub invariant-loop-word : goal.invariant-loop-word
invariant-loop-word l = map string_bytes l.keys.items ≡ map (λ word. word.now) (take l.word-index l.words)
