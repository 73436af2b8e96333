use Rattle.std.proofs.Common.{◌∙◌, length, map, set, take, sym, ap, arith}
use Rattle.std.specs.Prelude.{Some, None}
use Rattle.std.proofs.lemmas.List.{length-map}
use Rattle.std.proofs.lemmas.Simd.{splat_is_map}
use Rattle.compose_model.specs.Nodes.{leaves}
use Rattle.compose_tree.proofs.Steps.{leaf_below}
use Rattle.compose_places.specs.Last.{last_with}
use Rattle.compose_places.proofs.LastOnes.{no_leaf, one_leaf}
use Rattle.compose_places.proofs.last.last_definitions.Goals as goal
use Rattle.compose_places.proofs.last.last_definitions.Goals.{in-Some, in_default}

pub loop-index-init : goal.loop-index-init
loop-index-init g c = c.in_ok-last.ensures ∙ splat_is_map (leaves (g.T.ComposeTable.definitions c.args.table.now)) c.leaf_count.result None (sym c.leaf_count.ensures)

pub index_mut-requires : goal.index_mut-requires
index_mut-requires g c =
    let table = g.T.ComposeTable.definitions c.args.table.now in
    let few = leaf_below table c.sequence.result.now c.in-Some.ensures.0 in let number = c.in-Some.ensures.1 in
    let long = ap (λ xs. length xs) c.loop-index.invariant in let as_many = length-map (leaves table) (last_with (take c.loop-index.index c.args.definitions.now)) in
    omega (arith, few, number, long, as_many, c.loop-index.last.ok)

pub loop-index-preserved : goal.loop-index-preserved
loop-index-preserved g c =
    let table = g.T.ComposeTable.definitions c.args.table.now in let definitions = c.args.definitions.now in let index = c.loop-index.index in elim c.match-leaf_of.branch [
      | in-Some w ↦ ap (λ v. v.items) w.last-is ∙ ap (λ xs. set xs w.in-Some.leaf.0 (Some index)) c.loop-index.invariant
          ∙ ap (λ n. set (map (last_with (take index definitions)) (leaves table)) n (Some index)) (sym w.in-Some.ensures.1)
          ∙ sym (one_leaf table definitions index c.sequence.result.now (omega (arith, c.loop-index-test.true, c.len-index-end.ensures.count)) c.sequence.ensures w.in-Some.ensures.0)
      | in_default w ↦ ap (λ v. v.items) w.last-is ∙ c.loop-index.invariant
          ∙ sym (no_leaf table definitions index c.sequence.result.now (omega (arith, c.loop-index-test.true, c.len-index-end.ensures.count)) c.sequence.ensures w.in_default.ensures)
    ]
