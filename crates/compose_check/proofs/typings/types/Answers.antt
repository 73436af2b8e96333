use Rattle.std.proofs.Common.{◌∙◌, ◌+◌, [], ◌∷◌, ◌++◌, ◌&&◌, drop, sym, ap, arith}
use Rattle.std.proofs.lemmas.Bool.{and_left}
use Rattle.compose_model.specs.Session.{Session}
use Rattle.compose_model.specs.Step.{is_empty, step, pending_after}
use Rattle.compose_check.proofs.TypingConditions.{types_from, types_at}
use Rattle.compose_check.proofs.typings.types.Goals as goal

pub returns-then-not-is_empty : goal.returns-then-not-is_empty
returns-then-not-is_empty g c =
    let names = c.args.names.now in
    let table = g.U.ComposeTable.definitions c.args.new.now in
    let u = c.loop-keysym.state.pending in
    let k = c.keysym-item.result in
    let earlier = c.in-Some.earlier.now in
    let i = c.loop-keysym.keysym-index in
    sym (types_at names table u earlier i k c.in-Some.last.now c.args.character (omega arith) c.keysym-item.is
    ∙ and_left (is_empty (step names table u k).text) (types_from names table (pending_after table u k) (drop (i + 1) earlier ++ c.in-Some.last.now ∷ []) c.args.character)
    (ap is_empty (sym c.feed.ensures.reported.text) ∙ sym c.is_empty.ensures ∙ c.if-not-is_empty.true))
    ∙ c.loop-keysym.invariant

pub loop-keysym-preserved : goal.loop-keysym-preserved
loop-keysym-preserved g c =
    let names = c.args.names.now in
    let table = g.U.ComposeTable.definitions c.args.new.now in
    let u = c.loop-keysym.state.pending in
    let k = c.keysym-item.result in
    let earlier = c.in-Some.earlier.now in
    let i = c.loop-keysym.keysym-index in
    ap (λ (s : Session). types_from names table s.pending (drop (i + 1) earlier ++ c.in-Some.last.now ∷ []) c.args.character) c.feed.ensures.state
    ∙ sym (types_at names table u earlier i k c.in-Some.last.now c.args.character (omega arith) c.keysym-item.is
    ∙ ap (λ b. b && types_from names table (pending_after table u k) (drop (i + 1) earlier ++ c.in-Some.last.now ∷ []) c.args.character)
    (ap is_empty (sym c.feed.ensures.reported.text) ∙ sym c.is_empty.ensures ∙ c.if-not-is_empty.false))
    ∙ c.loop-keysym.invariant
