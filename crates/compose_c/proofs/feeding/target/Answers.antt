use Rattle.std.proofs.Common.{◌≡◌, ℕ, List, Some, sym, ◌∙◌, ap, option_map}
use Rattle.std.specs.Prelude.{slice_get}
use Rattle.compose_tree.specs.Targets.{target_of}
use Rattle.compose_state.proofs.PathNodes.{node_found, no_node, no_node_no_target, to_leaf}
use Rattle.compose_state.proofs.Feeding.{node_room}
use Rattle.compose_c.proofs.feeding.target.Goals as goal

one_keysym : (keysyms : List ℕ) (i j k : ℕ) → slice_get keysyms i ≡ Some j → slice_get keysyms i ≡ Some k → j ≡ k
one_keysym keysyms i j k e f = let same : Some j ≡ Some k = sym e ∙ f in cc

pub returns-in_err-node-clause-value : goal.returns-in_err-node-clause-value
returns-in_err-node-clause-value g c =
    let table = g.T.ComposeTable.definitions c.args.table.now in
    ap (option_map (λ found. found.1)) c.from_residual.ensures
    ∙ sym (no_node_no_target table c.args.numbers.now c.args.keysym (no_node table c.args.numbers.now (sym c.node_of.ensures ∙ c.in_err-node.was)))

pub find-requires : goal.find-requires
find-requires g c = (node_found (g.T.ComposeTable.definitions c.args.table.now) c.args.numbers.now c.in_ok-node.node (sym c.node_of.ensures ∙ c.in_ok-node.was)).in_range

pub returns-in_err-edge_index-clause-value : goal.returns-in_err-edge_index-clause-value
returns-in_err-edge_index-clause-value g c =
    let table = g.T.ComposeTable.definitions c.args.table.now in
    let is = (node_found table c.args.numbers.now c.in_ok-node.node (sym c.node_of.ensures ∙ c.in_ok-node.was)).is in
    ap (option_map (λ found. found.1)) c.from_residual-in_err-edge_index.ensures ∙ sym (ap (λ p. target_of table p c.args.keysym) (sym is) ∙ c.in_err-edge_index.ensures)

pub edge-target-requires-clause-node_in_range : goal.edge-target-requires-clause-node_in_range
edge-target-requires-clause-node_in_range g c =
    (node_found (g.T.ComposeTable.definitions c.args.table.now) c.args.numbers.now c.in_ok-node.node (sym c.node_of.ensures ∙ c.in_ok-node.was)).in_range

pub returns-clause-value : goal.returns-clause-value
returns-clause-value g c =
    let table = g.T.ComposeTable.definitions c.args.table.now in
    let is = (node_found table c.args.numbers.now c.in_ok-node.node (sym c.node_of.ensures ∙ c.in_ok-node.was)).is in
    let same = one_keysym _ c.in_ok-edge_index.edge_index c.edge-target.result.0 c.args.keysym c.edge-target.ensures.keysym c.in_ok-edge_index.ensures.1 in
    sym c.edge-target.ensures.target ∙ ap (target_of table _) same ∙ ap (λ p. target_of table p c.args.keysym) is

pub returns-clause-room : goal.returns-clause-room
returns-clause-room g c edge_index n e =
    node_room (g.T.ComposeTable.definitions c.args.table.now) c.args.numbers.now c.args.keysym n c.node_count-nodes.ensures.settled.definitions
    (sym (returns-clause-value g c) ∙ ap (option_map (λ found. found.1)) e)

pub returns-clause-leaf : goal.returns-clause-leaf
returns-clause-leaf g c edge_index l e =
    (to_leaf (g.T.ComposeTable.definitions c.args.table.now) c.args.numbers.now c.args.keysym l (sym (returns-clause-value g c) ∙ ap (option_map (λ found. found.1)) e)).in_range
