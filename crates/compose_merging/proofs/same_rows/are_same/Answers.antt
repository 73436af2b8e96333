use Rattle.std.proofs.Common.{◌≡◌, ◌∙◌, ◌<◌, length, sym, true, false, arith}
use Rattle.std.specs.Str.{bytes_eq}
use Rattle.std.proofs.lemmas.Bool.{not-true, not-false}
use Rattle.std.proofs.lemmas.Slice.Eq.{bytes_eq-Decides}
use Rattle.compose_merging.proofs.Rows.{other_sequence, same_more}
use Rattle.compose_merging.proofs.same_rows.are_same.Goals as goal

pub returns-then-ne-clause-different : goal.returns-then-ne-clause-different
returns-then-ne-clause-different c = λ _.
    (let s = c.sequence.result.now in let u = c.sequence-in-loop-index.result.now in
    let differ : bytes_eq s u ≡ false = not-true _ (sym c.ne.ensures ∙ c.if-ne.true) in
    other_sequence c.args.rows.now c.args.others.now c.loop-index.index s u c.sequence.ensures c.sequence-in-loop-index.ensures
    (λ e. let clash : true ≡ false = sym ((bytes_eq-Decides s u).1 e) ∙ differ in cc))

pub loop-index-preserved : goal.loop-index-preserved
loop-index-preserved c =
    let rows = c.args.rows.now in let others = c.args.others.now in let i = c.loop-index.index in
    let s = c.sequence.result.now in let u = c.sequence-in-loop-index.result.now in let t = c.text.result.now in let v = c.text-in-loop-index.result.now in
    let below : i < length rows = let e = c.len-index-end.ensures.count in omega (arith, c.loop-index-test.true) in
    let under : i < length others = let e = c.len-index-end.ensures.count in let f = c.len.ensures.count in let h = c.len-2.ensures.count in omega (arith, c.loop-index-test.true, c.if-len.false) in
    same_more rows others i s t u v below under c.sequence.ensures c.text.ensures c.sequence-in-loop-index.ensures c.text-in-loop-index.ensures
    ((bytes_eq-Decides s u).0 (not-false _ (sym c.ne.ensures ∙ c.if-ne.false))) ((bytes_eq-Decides t v).0 (not-false _ (sym c.ne-in-loop-index.ensures ∙ c.if-ne-2.false))) c.loop-index.invariant
