use Rattle.std.proofs.Common.{◌+◌, sym, ◌∙◌, arith}
use Rattle.std.proofs.lemmas.List.{take_rest}
use Rattle.compose_lex.proofs.Decodes.{Decodes, decodes_more}
use Rattle.compose_lex.proofs.escapes.decode.Goals as goal

-- one more piece is decoded
next : (c : goal.After-keep) → Decodes c.args.raw.now (c.loop-first.at + (1 + c.in_ok-byte.taken)) c.keep.new.kept.items (c.loop-first.len + 1)
next c =
    let raw = c.args.raw.now in
    let at = c.loop-first.at in
    decodes_more raw at c.loop-first.len c.in-Some.first.now c.in_ok-byte.byte c.in_ok-byte.taken c.loop-first.kept.items c.keep.new.kept.items c.in-Some.behind.now
    (sym (take_rest raw at) ∙ c.in-Some.ensures.cases.0) c.in_ok-byte.ensures.0 c.in_ok-byte.ensures.1 c.keep.ensures c.loop-first.invariant

pub overflow_add-at : goal.overflow_add-at
overflow_add-at c = let n = next c in let within = n.within in omega arith

pub overflow_add-at-in-Some : goal.overflow_add-at-in-Some
overflow_add-at-in-Some c = let n = next c in let within = n.within in omega arith

pub loop-first-preserved : goal.loop-first-preserved
loop-first-preserved c = next c
