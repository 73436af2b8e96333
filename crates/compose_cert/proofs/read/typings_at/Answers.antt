use Rattle.std.proofs.Common.{arith}
use Rattle.compose_text.specs.Lines.{divide}
use Rattle.compose_cert.specs.Reading.{typing_at}
use Rattle.std.proofs.lemmas.Result.{err_from_is_err_and}
use Rattle.compose_cert.proofs.Times.{times_more, times_stop}
use Rattle.compose_cert.proofs.read.typings_at.Goals as goal

pub returns-in_err-typing : goal.returns-in_err-typing
returns-in_err-typing c =
    let p = err_from_is_err_and c.from_residual-in_err-typing.result c.from_residual-in_err-typing.ensures.1 in
    let q = c.in_err-typing.ensures in
    rw (p.1, p.2) (λ n. times_stop typing_at c.loop-index.typings.items c.args.count c.loop-index.index c.args.line (divide 10 c.loop-index.rest.now) _ _ (omega arith) (q n) c.loop-index.invariant)

pub loop-index-preserved : goal.loop-index-preserved
loop-index-preserved c =
    rw c.in_ok-push.ensures.items
    (times_more typing_at c.loop-index.typings.items c.args.count c.loop-index.index c.args.line (divide 10 c.loop-index.rest.now) (divide 10 c.in_ok-typing.behind.now) c.in_ok-typing.typing _
    (omega arith) c.in_ok-typing.ensures c.loop-index.invariant)
