use Rattle.std.proofs.Common.{◌≡◌, ℕ, ◌<◌, false, get_or}
use Rattle.compose_text.specs.Bytes.{is_blank}
use Rattle.compose_cert.proofs.repertoire_words.split_at_blank.Given as goal

-- no blank is among the bytes before
abbrev pub invariant-loop-index : goal.invariant-loop-index
invariant-loop-index l = (k : ℕ) → k < l.index → is_blank (get_or l.bytes k 0) ≡ false
