use Rattle.std.proofs.Common.{◌≡◌, ◌∙◌, ◌++◌, ◌∷◌, [], ℕ, List, length, map, sym, ap, subst, arith}
use Rattle.std.specs.Prelude.{Option, None}
use Rattle.compose_model.specs.Nodes.{node}
use Rattle.compose_tree.specs.declared.table.NodeId.{NodeId}
use Rattle.compose_tree.specs.declared.table.Target.{Target}
use Rattle.compose_tree.proofs.Steps.{Leads, leads}
use Rattle.compose_compare.proofs.Children.{to_node, to_leaf, child_path}
use Rattle.compose_diff_rows.proofs.LongerNow.{KeysLead, nowhere, onward}
use Rattle.compose_diff_rows.proofs.longer.+node_named.Goals as goal

pub returns-in_err-node : goal.returns-in_err-node
returns-in_err-node g t c =
    let table = g.T.ComposeTable.definitions c.args.table.now in
    let names = c.args.names.now in
    let p = node table c.args.from.0 in
    let k = c.in_ok-lookup.field-0 in
    let key = c.in-Some.key.now.now in
    let rest = map (λ x. x.now) c.in-Some.rest.now in
    let whole : map (λ x. x.now) c.args.keys.now ≡ key ∷ rest = ap (map (λ x. x.now)) c.in-Some.ensures.cases.0 in
    let behind = subst (λ (o : Option Target). Leads table p k o) (sym c.in_err-node.ensures) (leads table p k) in
    subst (λ (keys : List (List ℕ)). KeysLead names table p keys c.from_residual-in_err-node.result) (sym whole)
    (subst (λ (o : Option NodeId). KeysLead names table p (key ∷ rest) o) (sym c.from_residual-in_err-node.ensures) (nowhere names table p key rest k c.in_ok-lookup.ensures behind.extended))

pub node_named-requires : goal.node_named-requires
node_named-requires g t c κs within =
    let table = g.T.ComposeTable.definitions c.args.table.now in
    let to = to_node table (node table c.args.from.0) c.in_ok-lookup.field-0 c.in_ok-node.field-0 c.in-Node.node (sym c.in_ok-node.ensures) c.in-Node.is in
    let fewer = ap length c.in-Some.ensures.cases.0 in (omega (arith, fewer, c.decreases), (within, to.in_range))

pub returns-in-Node : goal.returns-in-Node
returns-in-Node g t c =
    let table = g.T.ComposeTable.definitions c.args.table.now in
    let names = c.args.names.now in
    let p = node table c.args.from.0 in
    let k = c.in_ok-lookup.field-0 in
    let key = c.in-Some.key.now.now in
    let rest = map (λ x. x.now) c.in-Some.rest.now in
    let whole : map (λ x. x.now) c.args.keys.now ≡ key ∷ rest = ap (map (λ x. x.now)) c.in-Some.ensures.cases.0 in
    let to = to_node table p k c.in_ok-node.field-0 c.in-Node.node (sym c.in_ok-node.ensures) c.in-Node.is in
    subst (λ (keys : List (List ℕ)). KeysLead names table p keys c.node_named.result) (sym whole)
    (onward names table p key rest k c.in_ok-lookup.ensures (node table c.in-Node.node.0) (child_path table p k c.in-Node.node to) c.node_named.result c.node_named.ensures)

pub returns-in-Leaf : goal.returns-in-Leaf
returns-in-Leaf g t c =
    let table = g.T.ComposeTable.definitions c.args.table.now in
    let names = c.args.names.now in
    let p = node table c.args.from.0 in
    let k = c.in_ok-lookup.field-0 in
    let key = c.in-Some.key.now.now in
    let rest = map (λ x. x.now) c.in-Some.rest.now in
    let whole : map (λ x. x.now) c.args.keys.now ≡ key ∷ rest = ap (map (λ x. x.now)) c.in-Some.ensures.cases.0 in
    let to = to_leaf table p k c.in_ok-node.field-0 c.in-Leaf.field-0 (sym c.in_ok-node.ensures) c.in-Leaf.is in
    subst (λ (keys : List (List ℕ)). KeysLead names table p keys None) (sym whole) (nowhere names table p key rest k c.in_ok-lookup.ensures to.extended)
