use Rattle.std.proofs.Common.{arith}
use Rattle.compose_cert.proofs.WordsIn.{comment_found, comment_unfound}
use Rattle.compose_cert.proofs.repertoire_words.before_comment.Goals as goal

pub returns-then-byte-eq35 : goal.returns-then-byte-eq35
returns-then-byte-eq35 c = comment_found c.args.line.now c.loop-index.index (omega arith) (omega arith) c.loop-index.invariant

pub returns : goal.returns
returns c = comment_unfound c.args.line.now (λ k h. c.loop-index.invariant k (omega arith))
