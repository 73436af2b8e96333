use Rattle.std.proofs.Common.{◌∙◌, sym, ap, Some}
use Rattle.compose_service.proofs.Kept.{key_is}
use Rattle.compose_service.proofs.sessions.index_of.Goals as goal

pub returns-then-there-number : goal.returns-then-there-number
returns-then-there-number c =
    let s = c.in-Some.field-0-1.now in
    (s, sym c.in-Some.ensures.entry ∙ ap (λ k. Some (k, s)) c.if-there-number.true)

pub returns : goal.returns
returns c =
    let s = c.in_ok-index.field-0-2.now in
    (s, c.in_ok-index.ensures.entry ∙ ap (λ k. Some (k, s)) (sym (key_is c.args.number c.in_ok-index.field-0-1.now c.args.rows.now.entries (sym c.in_ok-index.ensures.key))))
