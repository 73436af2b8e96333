use Rattle.std.proofs.Common.{◌∙◌, ◌<◌, [], length, refl, sym, ap, arith}
use Rattle.std.proofs.lemmas.List.{take_all}
use Rattle.std.specs.Prelude.{nat_le}
use Rattle.std.specs.List.{list_all}
use Rattle.compose_model.specs.Nodes.{nodes, node}
use Rattle.compose_model.proofs.NodeLemmas.{root_is_node}
use Rattle.compose_tree.proofs.Lookups.{node_listed}
use Rattle.compose_make.proofs.Depths.{bounds_more}
use Rattle.compose_make.proofs.depth.greatest_depth.Goals as goal

pub loop-number-init : goal.loop-number-init
loop-number-init g c = record { bounds = refl; met = ([], root_is_node (g.U.ComposeTable.definitions c.args.new.now), refl) }

pub loop-number-preserved-then-depth-greatest : goal.loop-number-preserved-then-depth-greatest
loop-number-preserved-then-depth-greatest g c =
    let table = g.U.ComposeTable.definitions c.args.new.now in
    let below : c.loop-number.number < length (nodes table) = omega (arith, c.node_count-number-end.ensures.count) in
    record {
      bounds =
          bounds_more table c.loop-number.number c.loop-number.greatest c.loop-number.greatest below (omega arith)
          (let e = c.depth-depth.ensures.value in let l = c.if-depth-greatest.true in omega arith) c.loop-number.invariant.bounds;
      met = c.loop-number.invariant.met;
    }

pub loop-number-preserved : goal.loop-number-preserved
loop-number-preserved g c =
    let table = g.U.ComposeTable.definitions c.args.new.now in
    let below : c.loop-number.number < length (nodes table) = omega (arith, c.node_count-number-end.ensures.count) in
    record {
      bounds = bounds_more table c.loop-number.number c.loop-number.greatest c.depth-depth.result below (omega arith) (omega (arith, c.depth-depth.ensures.value)) c.loop-number.invariant.bounds;
      met = (node table c.loop-number.number, node_listed table c.loop-number.number below, sym c.depth-depth.ensures.value);
    }

pub returns : goal.returns
returns g c =
    let table = g.U.ComposeTable.definitions c.args.new.now in
    record {
      bounds =
          ap (list_all (λ p. nat_le (length p) c.loop-number.greatest)) (sym (take_all c.loop-number.number (nodes table) (omega (arith, c.node_count-number-end.ensures.count))))
          ∙ c.loop-number.invariant.bounds;
      met = c.loop-number.invariant.met;
    }
