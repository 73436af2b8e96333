use Rattle.std.proofs.Common.{◌≡◌, ◌∙◌, ◌++◌, ◌∷◌, [], ◌+◌, List, ℕ, length, take, sym, ap, subst, arith, length-append}
use Rattle.std.specs.Prelude.{Option}
use Rattle.compose_model.specs.Nodes.{node, edges}
use Rattle.compose_model.specs.Table.{is_proper_prefix}
use Rattle.compose_compare.proofs.Children.{to_node, to_leaf, child_path, deeper}
use Rattle.compose_compare.proofs.Written.{is_through}
use Rattle.compose_walk.proofs.Onward.{begins}
use Rattle.compose_lookup.specs.Longer.{FindsShortest}
use Rattle.compose_lookup.specs.declared.longer.FoundLeaf.{FoundLeaf}
use Rattle.compose_lookup.proofs.Shorter.{one_edge, by_node, by_leaf, by_all}
use Rattle.compose_lookup.proofs.longer.+shortest_from.Goals.{in-Node, in-Leaf}
use Rattle.compose_lookup.proofs.longer.+shortest_from.Goals as goal

pub shortest_from-found-requires : goal.shortest_from-found-requires
shortest_from-found-requires g t c κs within =
    let table = g.T.ComposeTable.definitions c.args.table.now in
    let p = node table c.args.node.0 in
    let k = c.edge-target.result.0 in
    let to = to_node table p k c.edge-target.result.1 c.in-Node.child c.edge-target.ensures.target c.in-Node.is in (
      deeper table c.args.node.0 k t c.in-Node.child c.requires.settled.definitions c.requires.in_range to c.decreases,
      (within, (c.requires.settled, to.in_range)),
    )

pub loop-index-preserved : goal.loop-index-preserved
loop-index-preserved g t c =
    let table = g.T.ComposeTable.definitions c.args.table.now in
    let settled = c.requires.settled in
    let p = node table c.args.node.0 in
    let k = c.edge-target.result.0 in
    let q : List ℕ = p ++ k ∷ [] in
    let found : FindsShortest table (begins q) c.match-target.found = elim c.match-target.branch [
      | in-Node w ↦ (
          let to = to_node table p k c.edge-target.result.1 w.in-Node.child c.edge-target.ensures.target w.in-Node.is in
          subst (λ (f : Option FoundLeaf). FindsShortest table (begins q) f) (sym w.found-is)
          (by_node table settled p q to.extended w.shortest_from-found.result
          (subst (λ (x : List ℕ). FindsShortest table (is_proper_prefix x) w.shortest_from-found.result) (sym (child_path table p k w.in-Node.child to)) w.shortest_from-found.ensures)))
      | in-Leaf w ↦ (
          let to = to_leaf table p k c.edge-target.result.1 w.in-Leaf.leaf c.edge-target.ensures.target w.in-Leaf.is in
          let keys : length q ≡ c.depth-keys.result + 1 = length-append p (k ∷ []) ∙ sym (ap (λ n. n + 1) c.depth-keys.ensures.value) in
          subst (λ (f : Option FoundLeaf). FindsShortest table (begins q) f) (sym w.found-is)
          (by_leaf table settled p q to.sequence (record { keys = c.depth-keys.result + 1; leaf = w.in-Leaf.leaf }) to.number keys))
    ] in
    subst (λ (f : Option FoundLeaf). FindsShortest table (is_through p (take (c.loop-index.index + 1) (edges table p))) f) (sym c.sooner-best.ensures)
    (one_edge table settled p (edges table p) c.loop-index.index k c.edge-target.ensures.keysym c.loop-index.best c.match-target.found c.loop-index.invariant found)

pub returns : goal.returns
returns g t c =
    let table = g.T.ComposeTable.definitions c.args.table.now in
    by_all table c.requires.settled (node table c.args.node.0) c.loop-index.index (let e = c.edge_count-index-end.ensures in omega arith) c.loop-index.best c.loop-index.invariant
