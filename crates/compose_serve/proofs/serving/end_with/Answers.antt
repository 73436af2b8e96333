use Rattle.std.proofs.Common.{take, sym, subst, Err}
use Rattle.compose_wire.specs.Frames.{reply_bytes}
use Rattle.compose_serve.specs.Ends.{EndsBy, malformed_reply}
use Rattle.compose_serve.specs.declared.next.Stop.{Stop}
use Rattle.compose_serve.specs.declared.ends.ServeFault.TheVariants.{Write}
use Rattle.compose_serve.proofs.Going.{take-proper}
use Rattle.compose_serve.proofs.serving.end_with.Goals as goal

pub returns-in-Err-clause-so : goal.returns-in-Err-clause-so
returns-in-Err-clause-so g c =
    let h = c.in-Err.ensures.err in
    subst (λ (s : Stop). EndsBy s (Err Write) (g.W.Push.written c.args.writer.now) (g.W.Push.written c.push_all.new.writer) (g.W.Push.failed c.push_all.new.writer)) (sym c.in-Faulty.is)
    (take h.0 (reply_bytes malformed_reply), take-proper h.0 (reply_bytes malformed_reply) h.1, h.2, c.in-Err.ensures.marked)
