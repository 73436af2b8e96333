use Rattle.std.proofs.Common.{◌≡◌, ℕ, ◌<◌, get_or}
use Rattle.compose_cert.proofs.certificate_words.split_at_byte.Given as goal

-- the byte is not among those before
abbrev pub invariant-loop-index : goal.invariant-loop-index
invariant-loop-index l = (k : ℕ) → k < l.index → get_or l.bytes k 0 ≡ l.at → ⊥
