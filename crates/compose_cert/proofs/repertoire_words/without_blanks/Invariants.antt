use Rattle.std.proofs.Common.{◌≡◌, drop}
use Rattle.compose_cert.specs.Repertoire.{words_in}
use Rattle.compose_cert.proofs.repertoire_words.without_blanks.Given as goal

-- the remaining bytes have the same words
abbrev pub invariant-loop-index : goal.invariant-loop-index
invariant-loop-index l = words_in (drop l.index l.bytes) ≡ words_in l.bytes
