use Rattle.std.proofs.Common.{◌≡◌, ℕ, ◌<◌, get_or}
use Rattle.compose_cert.proofs.repertoire_words.before_comment.Given as goal

-- no `#` is among the bytes before
abbrev pub invariant-loop-index : goal.invariant-loop-index
invariant-loop-index l = (k : ℕ) → k < l.index → get_or l.line k 0 ≡ 35 → ⊥
