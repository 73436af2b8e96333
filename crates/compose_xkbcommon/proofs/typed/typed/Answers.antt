use Rattle.std.proofs.Common.{◌++◌, ap, sym, ◌∙◌, arith}
use Rattle.std.proofs.lemmas.List.{take_rest}
use Rattle.compose_xkbcommon.proofs.Escapes.{types_more, types_within}
use Rattle.compose_xkbcommon.proofs.typed.typed.Goals as goal

pub overflow_add-at : goal.overflow_add-at
overflow_add-at c =
    let raw = c.args.raw.now in let at = c.loop-first.at in
    let n = types_within raw at c.in-Some.first.now c.piece_at-byte.result.1 c.in-Some.behind.now c.loop-first.invariant.within (sym (take_rest raw at) ∙ c.in-Some.ensures.cases.0) c.piece_at-byte.ensures.len in omega (arith, n)

pub overflow_add-at-in-Some : goal.overflow_add-at-in-Some
overflow_add-at-in-Some c =
    let raw = c.args.raw.now in let at = c.loop-first.at in
    let n = types_within raw at c.in-Some.first.now c.piece_at-byte.result.1 c.in-Some.behind.now c.loop-first.invariant.within (sym (take_rest raw at) ∙ c.in-Some.ensures.cases.0) c.piece_at-byte.ensures.len in omega (arith, n)

pub loop-first-preserved : goal.loop-first-preserved
loop-first-preserved c =
    let raw = c.args.raw.now in let at = c.loop-first.at in let bytes = c.loop-first.bytes.items in
    types_more raw at c.in-Some.first.now c.piece_at-byte.result.1 c.in-Some.behind.now bytes _ (sym (take_rest raw at) ∙ c.in-Some.ensures.cases.0) c.piece_at-byte.ensures.len
    (c.in_ok-push_if.ensures ∙ ap (λ more. bytes ++ more) c.piece_at-byte.ensures.byte) c.loop-first.invariant
