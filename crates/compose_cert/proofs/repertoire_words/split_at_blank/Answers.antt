use Rattle.std.proofs.Common.{◌+◌, add-one, sym, arith}
use Rattle.std.proofs.lemmas.List.{take_rest}
use Rattle.compose_cert.proofs.WordsIn.{word_found, word_unfound}
use Rattle.compose_cert.proofs.repertoire_words.split_at_blank.Goals as goal

pub returns-then-is_blank : goal.returns-then-is_blank
returns-then-is_blank c =
    rw (take_rest c.args.bytes.now (c.loop-index.index + 1), add-one) (word_found c.args.bytes.now c.loop-index.index (omega arith) c.requires.first (sym c.if-is_blank.ensures) c.loop-index.invariant)

pub returns : goal.returns
returns c = word_unfound c.args.bytes.now c.requires.some (λ k h. c.loop-index.invariant k (omega arith))
