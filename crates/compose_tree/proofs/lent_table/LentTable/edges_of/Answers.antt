use Rattle.std.proofs.Common.{◌≡◌, ◌<◌, ◌≤◌, ◌+◌, ◌-◌, ◌∙◌, ℕ, List, refl, length, arith, ap, map, take, drop, get_or}
use Rattle.std.proofs.lemmas.List.{get_or_default}
use Rattle.compose_model.specs.Table.{Definition}
use Rattle.compose_model.specs.Nodes.{nodes, node}
use Rattle.compose_tree.specs.declared.packed.PackedNode.{PackedNode}
use Rattle.compose_tree.specs.declared.packed.PackedEdge.{PackedEdge}
use Rattle.compose_tree.specs.Packed.{IsPacked, packed_edge}
use Rattle.compose_tree.specs.Rows.{row_of}
use Rattle.compose_tree.proofs.PackedLookups.{packed_as, node_entries, edges_between}
use Rattle.compose_tree.proofs.lent_table.LentTable.edges_of.Goals as goal

-- the place of the edges of node i in the arrays of a table
abbrev between : (nodes' : List PackedNode) (edges' : List PackedEdge) (entries long : List ℕ) (table : List Definition) (i : ℕ) → Type 0
between nodes' edges' entries long table i =
    let z : PackedNode = record { depth = 0; first = 0 } in
    ((get_or nodes' i z).first ≤ (get_or nodes' (i + 1) z).first) × ((get_or nodes' (i + 1) z).first ≤ length edges')
    × (take ((get_or nodes' (i + 1) z).first - (get_or nodes' i z).first) (drop (get_or nodes' i z).first edges') ≡ map packed_edge (row_of table (node table i)).edges)

stands : (nodes' : List PackedNode) (edges' : List PackedEdge) (entries long : List ℕ) (table : List Definition) → IsPacked nodes' edges' entries long table
    → (i : ℕ) → i < length (nodes table) → between nodes' edges' entries long table i
stands nodes' edges' entries long table p i h =
    let z : PackedNode = record { depth = 0; first = 0 } in
    let a : PackedNode = get_or nodes' i z in
    let b : PackedNode = get_or nodes' (i + 1) z in
    let within = (node_entries nodes' edges' entries long table p i h).within in
    edges_between nodes' edges' entries long table p i a.first b.first a b h (get_or_default nodes' i z a (omega (arith, within))) (get_or_default nodes' (i + 1) z b (omega (arith, within))) refl refl

pub bounds-self-inside-number : goal.bounds-self-inside-number
bounds-self-inside-number c =
    let p = packed_as c.self.inside.nodes.now c.self.inside.edges.now c.self.inside.texts.now c.self.inside.long_texts.now c.args.self.now c.self.invariant c.self.view_is in
    let within = (node_entries c.self.inside.nodes.now c.self.inside.edges.now c.self.inside.texts.now c.self.inside.long_texts.now c.args.self.now p c.args.node.0 c.requires).within in
    omega (arith, within)

pub bounds-self-inside-number-2 : goal.bounds-self-inside-number-2
bounds-self-inside-number-2 c =
    let p = packed_as c.self.inside.nodes.now c.self.inside.edges.now c.self.inside.texts.now c.self.inside.long_texts.now c.args.self.now c.self.invariant c.self.view_is in
    let within = (node_entries c.self.inside.nodes.now c.self.inside.edges.now c.self.inside.texts.now c.self.inside.long_texts.now c.args.self.now p c.args.node.0 c.requires).within in
    omega (arith, within)

pub split_at-requires : goal.split_at-requires
split_at-requires c =
    let p = packed_as c.self.inside.nodes.now c.self.inside.edges.now c.self.inside.texts.now c.self.inside.long_texts.now c.args.self.now c.self.invariant c.self.view_is in
    let b = stands c.self.inside.nodes.now c.self.inside.edges.now c.self.inside.texts.now c.self.inside.long_texts.now c.args.self.now p c.args.node.0 c.requires in
    omega (arith, b.0, b.1)

pub overflow_sub-end : goal.overflow_sub-end
overflow_sub-end c =
    let p = packed_as c.self.inside.nodes.now c.self.inside.edges.now c.self.inside.texts.now c.self.inside.long_texts.now c.args.self.now c.self.invariant c.self.view_is in
    (stands c.self.inside.nodes.now c.self.inside.edges.now c.self.inside.texts.now c.self.inside.long_texts.now c.args.self.now p c.args.node.0 c.requires).0

pub split_at-requires-2 : goal.split_at-requires-2
split_at-requires-2 c =
    let p = packed_as c.self.inside.nodes.now c.self.inside.edges.now c.self.inside.texts.now c.self.inside.long_texts.now c.args.self.now c.self.invariant c.self.view_is in
    let b = stands c.self.inside.nodes.now c.self.inside.edges.now c.self.inside.texts.now c.self.inside.long_texts.now c.args.self.now p c.args.node.0 c.requires in
    omega (arith, b.0, b.1, c.split_at.ensures.back_len)

pub returns-clause-value : goal.returns-clause-value
returns-clause-value c =
    let p = packed_as c.self.inside.nodes.now c.self.inside.edges.now c.self.inside.texts.now c.self.inside.long_texts.now c.args.self.now c.self.invariant c.self.view_is in
    let z : PackedNode = record { depth = 0; first = 0 } in
    c.split_at-2.ensures.front ∙ ap (take ((get_or c.self.inside.nodes.now (c.args.node.0 + 1) z).first - (get_or c.self.inside.nodes.now c.args.node.0 z).first)) c.split_at.ensures.back
    ∙ (stands c.self.inside.nodes.now c.self.inside.edges.now c.self.inside.texts.now c.self.inside.long_texts.now c.args.self.now p c.args.node.0 c.requires).2
