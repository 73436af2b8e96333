-- The targets of a node's edges.
use Rattle.std.proofs.Common.{◌≡◌, ℕ, ◌+◌, ◌-◌, ◌<◌, ◌≤◌, List, [], ◌∷◌, ◌++◌, true, length, sym, ◌∙◌, ap, subst, arith, length-append, Some}
use Rattle.compose_model.specs.Table.{Definition, is_table}
use Rattle.compose_model.specs.Nodes.{nodes, node}
use Rattle.compose_model.proofs.NodeLemmas.{node_at_number}
use Rattle.compose_tree.specs.Targets.{target_of}
use Rattle.compose_tree.specs.declared.table.NodeId.{NodeId}
use Rattle.compose_tree.specs.declared.table.LeafId.{LeafId}
use Rattle.compose_tree.specs.declared.table.Target.{Target}
use Rattle.compose_tree.specs.declared.table.Target.TheVariants.{Node, Leaf}
use Rattle.compose_tree.proofs.Lookups.{node_few, node_listed}
use Rattle.compose_tree.proofs.Steps.{Leads, leads, ToNode, ToLeaf}

-- a key whose target is a node leads to the list with one keysym more, which is that node
pub to_node : (table : List Definition) (p : List ℕ) (k : ℕ) (target : Target) (n : NodeId) → target_of table p k ≡ Some target → target ≡ Node n → ToNode table p k n
to_node table p k target n e is = subst (Leads table p k) (e ∙ ap Some is) (leads table p k)

-- a key whose target is a leaf completes the sequence of that leaf
pub to_leaf : (table : List Definition) (p : List ℕ) (k : ℕ) (target : Target) (l : LeafId) → target_of table p k ≡ Some target → target ≡ Leaf l → ToLeaf table p k l
to_leaf table p k target l e is = subst (Leads table p k) (e ∙ ap Some is) (leads table p k)

-- the node to which a key leads is the list with that key appended
pub child_path : (table : List Definition) (p : List ℕ) (k : ℕ) (n : NodeId) → ToNode table p k n → p ++ k ∷ [] ≡ node table n.0
child_path table p k n to = sym (node_at_number table (p ++ k ∷ []) to.is_node) ∙ ap (node table) to.number

-- a node has at most 31 keysyms, so a pass goes no deeper
pub deeper : (table : List Definition) (i k t : ℕ) (n : NodeId) → is_table table ≡ true → i < length (nodes table) → ToNode table (node table i) k n → 32 - length (node table i) ≡ t
    → 32 - length (node table n.0) < t
deeper table i k t n sound below to e =
    let few : length (node table i) ≤ 31 = node_few table (node table i) sound (node_listed table i below) in
    let longer : length (node table n.0) ≡ length (node table i) + 1 = ap length (sym (child_path table (node table i) k n to)) ∙ length-append (node table i) (k ∷ []) in
    omega arith
