use Rattle.std.proofs.Common.{◌+◌, ◌*◌, ◌/◌, ◌<◌, ◌≡◌, ◌∙◌, length, slice_index, arith, ap, sym, inl, inr}
use Rattle.std.proofs.lemmas.Bool.{eqb-false, cases_lt}
use Rattle.compose_tree.specs.Packed.{keys_of}
use Rattle.compose_tree.specs.declared.packed.PackedEdge.{PackedEdge}
use Rattle.compose_tree.proofs.PackedLookups.{key_there, less_below, greater_from, nowhere_else}
use Rattle.compose_tree.proofs.lent_table.index_of.Goals as goal
use Rattle.compose_tree.proofs.lent_table.index_of.Goals.{else-count-eq1-via-then-count-eq1+else-eq, else-count-eq1-via-else-count-eq1}

pub loop-count-preserved : goal.loop-count-preserved
loop-count-preserved c =
    let half = c.loop-count.count / 2 in
    let middle = c.loop-count.first + half in
    let in_range : middle < length c.args.edges.now = omega (arith, c.loop-count-test.true, c.loop-count.invariant.within) in
    let there = key_there c.args.edges.now middle c.index-edges-first.result in_range c.index-edges-first.is ∙ ap (λ (e : PackedEdge). e.keysym) c.index-edges-first.is in
    elim (cases_lt c.args.keysym (slice_index (keys_of c.args.edges.now) middle)) [
      | inl greater ↦
          let stays : half * c.at_most.result ≡ 0 = ap (λ r. half * r) (c.at_most.ensures.zero (omega (arith, greater, there))) ∙ omega arith in
          record {
            within = omega (arith, stays, c.loop-count.invariant.within);
            below = λ k h. c.loop-count.invariant.below k (omega (arith, stays, h));
            above = λ k le h. greater_from c.args.edges.now c.args.keysym middle c.requires greater k (omega (arith, stays, le, c.loop-count-test.true)) h;
          }
      | inr no_greater ↦
          let moves : half * c.at_most.result ≡ half = ap (λ r. half * r) (c.at_most.ensures.one (omega (arith, no_greater, there))) ∙ omega arith in
          record {
            within = omega (arith, moves, c.loop-count.invariant.within);
            below = λ k h. less_below c.args.edges.now c.args.keysym middle c.requires in_range no_greater k (omega (arith, moves, h));
            above = λ k le h. c.loop-count.invariant.above k (omega (arith, moves, le)) h;
          }
    ]

pub returns-else-count-eq1 : goal.returns-else-count-eq1
returns-else-count-eq1 c =
    let nowhere = nowhere_else c.args.edges.now c.args.keysym c.loop-count.first c.loop-count.count c.loop-count-test.false c.loop-count.invariant.below c.loop-count.invariant.above in
    elim c.else-count-eq1.branch [
      | else-count-eq1-via-then-count-eq1+else-eq w ↦
          let here : c.loop-count.first < length c.args.edges.now = omega (arith, w.if-count-eq1.true, c.loop-count.invariant.within) in
          let edge = w.index-edges-first-then-count-eq1 in
          let there = key_there c.args.edges.now c.loop-count.first edge.result here edge.is in
          nowhere (λ _ found. eqb-false _ c.args.keysym (sym w.eq.ensures ∙ w.if-eq.false) (sym (ap (λ (e : PackedEdge). e.keysym) edge.is) ∙ sym there ∙ found))
      | else-count-eq1-via-else-count-eq1 w ↦ nowhere (λ one _. w.if-count-eq1.false one)
    ]
