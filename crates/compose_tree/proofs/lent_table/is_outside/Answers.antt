use Rattle.std.proofs.Common.{◌-◌, ◌∙◌, length, arith, ap}
use Rattle.std.proofs.lemmas.Bool.{ltb-true}
use Rattle.compose_tree.specs.declared.packed.PackedEdge.{PackedEdge}
use Rattle.compose_tree.proofs.PackedLookups.{key_there, none_above, none_below}
use Rattle.compose_tree.proofs.lent_table.is_outside.Goals as goal

pub returns-then-value : goal.returns-then-value
returns-then-value c outside k h same =
    let there = key_there c.args.edges.now 0 c.index-edges-0.result (omega (arith, h)) c.index-edges-0.is ∙ ap (λ (e : PackedEdge). e.keysym) c.index-edges-0.is in
    none_below c.args.edges.now c.args.keysym c.requires (omega (arith, there, c.if-value.true, c.value-value.ensures.same, c.value.ensures.same)) k h same

pub returns-else-value : goal.returns-else-value
returns-else-value c outside k h same =
    let last = length c.args.edges.now - 1 in
    let there = key_there c.args.edges.now last c.index-edges-count.result (omega (arith, h)) c.index-edges-count.is ∙ ap (λ (e : PackedEdge). e.keysym) c.index-edges-count.is in
    let greater = ltb-true c.value-else-value.result c.value-value.result outside in
    none_above c.args.edges.now c.args.keysym last c.requires (omega (arith, h)) (omega (arith, there, greater, c.value-value.ensures.same, c.value-else-value.ensures.same)) k h same
