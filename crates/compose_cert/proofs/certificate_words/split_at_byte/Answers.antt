use Rattle.std.proofs.Common.{◌+◌, add-one, arith}
use Rattle.std.proofs.lemmas.List.{take_rest}
use Rattle.compose_cert.proofs.WordRead.{divide_found, divide_unfound}
use Rattle.compose_cert.proofs.certificate_words.split_at_byte.Goals as goal

pub returns-then-byte-at-clause-cases : goal.returns-then-byte-at-clause-cases
returns-then-byte-at-clause-cases c =
    rw (take_rest c.args.bytes.now (c.loop-index.index + 1), add-one) (divide_found c.args.at c.args.bytes.now c.loop-index.index (omega arith) (omega arith) c.loop-index.invariant)

pub returns-clause-cases : goal.returns-clause-cases
returns-clause-cases c = divide_unfound c.args.at c.args.bytes.now (λ k h. c.loop-index.invariant k (omega arith))
