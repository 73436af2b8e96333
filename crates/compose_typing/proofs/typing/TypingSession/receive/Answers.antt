use Rattle.std.proofs.Common.{◌≡◌, ◌++◌, sym, subst}
use Rattle.std.specs.Prelude.{Some}
use Rattle.compose_client.specs.Replies.{head_fault}
use Rattle.compose_typing.specs.Bytes.{TypingSession}
use Rattle.compose_typing.proofs.typing.TypingSession.receive.Goals as goal

pub returns-in-Ok-Some-clause-fault : goal.returns-in-Ok-Some-clause-fault
returns-in-Ok-Some-clause-fault c = λ fault h.
    let g : head_fault (c.self.inside.replies ++ c.args.piece.now) ≡ Some fault = subst (λ (t : TypingSession). head_fault (t.held ++ c.args.piece.now) ≡ Some fault) (sym c.self.view_is) h in
    let e = c.next_reply-used.ensures.fault fault g in
    let i = c.in-Ok-Some.is in
    cc
