use Rattle.std.proofs.Common.{◌≡◌, ◌∙◌, ◌≤◌, ◌<◌, ◌+◌, ◌||◌, ℕ, List, ◌∷◌, ◌++◌, [], length, take, map, sym, ap, subst, arith, true}
use Rattle.std.specs.Prelude.{Some}
use Rattle.keysym_core.specs.Names.{KeysymNames}
use Rattle.compose_model.specs.Table.{Definition, is_table, is_extended, is_sequence, text_at}
use Rattle.compose_model.specs.Nodes.{nodes, node, edges}
use Rattle.compose_model.specs.Certificate.{is_key, keys_rise}
use Rattle.compose_model.proofs.NodeLemmas.{node_at_number}
use Rattle.compose_tree.specs.Targets.{target_of}
use Rattle.compose_tree.specs.declared.table.Target.{Target}
use Rattle.compose_tree.specs.declared.table.Target.TheVariants.{Node, Leaf}
use Rattle.compose_tree.proofs.Lookups.{node_few, node_listed}
use Rattle.compose_tree.proofs.Steps.{Leads, leads, ToNode, ToLeaf}
use Rattle.compose_make.specs.Least.{are_keys}
use Rattle.compose_make.specs.Wanted.{WantedCharacter, AreLeast, offered_row, is_whole_after, characters_of}
use Rattle.compose_make.proofs.Behind.{is_through, seen_skip, seen_node, seen_leaf, seen_all}
use Rattle.compose_tree.specs.declared.table.NodeId.{NodeId}
use Rattle.compose_tree.specs.declared.table.LeafId.{LeafId}
use Rattle.std.proofs.Common.{length-append, ◌-◌}
use Rattle.compose_make.proofs.Reduction.{with_last}
use Rattle.compose_make.proofs.Rows.{offered_characters}
use Rattle.compose_make.proofs.pass.+visit.Goals.{in-Node, in-Leaf}
use Rattle.compose_make.proofs.pass.+visit.Goals as goal

no_names : KeysymNames
no_names = record { names = []; characters = [] }

few : (table : List Definition) (p keys : List ℕ) (i : ℕ) → is_table table ≡ true → i < length (nodes table) → keys ≡ node table i → length keys < 32
few table p keys i sound h path =
    let l : length (node table i) ≤ 31 = node_few table (node table i) sound (node_listed table i h) in
    let is : length keys ≡ length (node table i) = ap length path in
    omega arith

pub with_key-longer-requires : goal.with_key-longer-requires
with_key-longer-requires g t c = few (g.U.ComposeTable.definitions c.args.new.now) c.args.keys.now c.args.keys.now c.args.node.0 c.requires.settled.definitions c.requires.in_range c.requires.path

-- an edge to a node, and one to a leaf
to_node : (table : List Definition) (p : List ℕ) (k : ℕ) (target : Target) (n : NodeId) → target_of table p k ≡ Some target → target ≡ Node n → ToNode table p k n
to_node table p k target n e is = subst (Leads table p k) (e ∙ ap Some is) (leads table p k)

to_leaf : (table : List Definition) (p : List ℕ) (k : ℕ) (target : Target) (l : LeafId) → target_of table p k ≡ Some target → target ≡ Leaf l → ToLeaf table p k l
to_leaf table p k target l e is = subst (Leads table p k) (e ∙ ap Some is) (leads table p k)

child_path : (table : List Definition) (p : List ℕ) (k : ℕ) (n : NodeId) → ToNode table p k n → p ++ k ∷ [] ≡ node table n.0
child_path table p k n to = sym (node_at_number table (p ++ k ∷ []) to.is_node) ∙ ap (node table) to.number

deeper : (t : ℕ) (keys longer : List ℕ) (k : ℕ) → 32 - length keys ≡ t → longer ≡ keys ++ k ∷ [] → length keys < 32 → 32 - length longer < t
deeper t keys longer k e is l = let n : length longer ≡ length keys + 1 = ap length is ∙ length-append keys (k ∷ []) in omega arith

pub visit-requires : goal.visit-requires
visit-requires g t c κs within =
    let table = g.U.ComposeTable.definitions c.args.new.now in
    let p = node table c.args.node.0 in
    let k = c.edge-keysym.result.0 in
    let to = to_node table p k c.edge-keysym.result.1 c.in-Node.child c.edge-keysym.ensures.target c.in-Node.is in
    let longer : c.as_slice.result.now ≡ c.args.keys.now ++ k ∷ [] = c.as_slice.ensures.value ∙ c.with_key-longer.ensures in
    let falls : 32 - length c.as_slice.result.now < t =
    deeper t c.args.keys.now c.as_slice.result.now k c.decreases longer
    (few table c.args.keys.now c.args.keys.now c.args.node.0 c.requires.settled.definitions c.requires.in_range c.requires.path) in
    let keys : are_keys c.args.repertoire.now c.as_slice.result.now ≡ true =
    ap (are_keys c.args.repertoire.now) longer ∙ with_last (is_key c.args.repertoire.now) c.args.keys.now k c.requires.by_keys (sym c.is_key.ensures ∙ c.if-not-is_key.false) in
    let rise : keys_rise (characters_of c.loop-index.rows) ≡ true = ap keys_rise c.loop-index.invariant.characters ∙ c.requires.rise in
    (falls, (within, (c.requires.settled, (to.in_range, (longer ∙ ap (λ q. q ++ k ∷ []) c.requires.path ∙ child_path table p k c.in-Node.child to, (keys, rise))))))

pub text-requires : goal.text-requires
text-requires g t c =
    let table = g.U.ComposeTable.definitions c.args.new.now in
    (to_leaf table (node table c.args.node.0) c.edge-keysym.result.0 c.edge-keysym.result.1 c.in-Leaf.leaf c.edge-keysym.ensures.target c.in-Leaf.is).in_range

pub loop-index-preserved-then-not-is_key : goal.loop-index-preserved-then-not-is_key
loop-index-preserved-then-not-is_key g t c =
    let table = g.U.ComposeTable.definitions c.args.new.now in
    record {
      characters = c.loop-index.invariant.characters;
      least =
          seen_skip no_names table c.args.repertoire.now c.requires.settled c.args.keys.now
          (edges table (node table c.args.node.0)) c.loop-index.index c.edge-keysym.result.0 c.args.rows.now c.loop-index.rows c.edge-keysym.ensures.keysym
          (sym c.is_key.ensures ∙ c.if-not-is_key.true) c.loop-index.invariant.least;
    }

pub loop-index-preserved : goal.loop-index-preserved
loop-index-preserved g t c = elim c.match-target.branch [
  | in-Node w ↦ (
      let table = g.U.ComposeTable.definitions c.args.new.now in
      let repertoire = c.args.repertoire.now in
      let p = c.args.keys.now in
      let n = node table c.args.node.0 in
      let k = c.edge-keysym.result.0 in
      let to = to_node table n k c.edge-keysym.result.1 w.in-Node.child c.edge-keysym.ensures.target w.in-Node.is in
      let extended : is_extended table (p ++ k ∷ []) ≡ true = ap (λ q. is_extended table (q ++ k ∷ [])) c.requires.path ∙ to.extended in
      let longer : w.as_slice.result.now ≡ p ++ k ∷ [] = w.as_slice.ensures.value ∙ c.with_key-longer.ensures in
      record {
        characters = ap characters_of w.rows-is ∙ w.visit.ensures.characters ∙ c.loop-index.invariant.characters;
        least =
            λ passes a. subst (λ (rows : List WantedCharacter). AreLeast (λ d v. passes d v || is_through table repertoire d p (take (c.loop-index.index + 1) (edges table n)) v) rows) (sym w.rows-is)
            (seen_node no_names table repertoire c.requires.settled p
            (edges table n) c.loop-index.index k c.args.rows.now c.loop-index.rows w.visit.new.rows c.edge-keysym.ensures.keysym extended c.loop-index.invariant.least
            (λ q b. subst (λ (x : List ℕ). AreLeast (λ d v. q d v || is_whole_after table repertoire d x v) w.visit.new.rows) longer (w.visit.ensures.least q b)) passes a);
      })
  | in-Leaf w ↦ (
      let table = g.U.ComposeTable.definitions c.args.new.now in
      let repertoire = c.args.repertoire.now in
      let p = c.args.keys.now in
      let n = node table c.args.node.0 in
      let k = c.edge-keysym.result.0 in
      let text = w.text.result.now in
      let to = to_leaf table n k c.edge-keysym.result.1 w.in-Leaf.leaf c.edge-keysym.ensures.target w.in-Leaf.is in
      let sequence : is_sequence table (p ++ k ∷ []) ≡ true = ap (λ q. is_sequence table (q ++ k ∷ [])) c.requires.path ∙ to.sequence in
      let texted : text_at table (p ++ k ∷ []) ≡ Some text = ap (λ q. text_at table (q ++ k ∷ [])) c.requires.path ∙ sym to.text ∙ w.text.ensures.value in
      let keys : are_keys repertoire (p ++ k ∷ []) ≡ true = with_last (is_key repertoire) p k c.requires.by_keys (sym c.is_key.ensures ∙ c.if-not-is_key.false) in
      let longer : w.as_slice-in-Leaf.result.now ≡ p ++ k ∷ [] = w.as_slice-in-Leaf.ensures.value ∙ c.with_key-longer.ensures in
      let rows_are : c.match-target.rows ≡ map (offered_row text (p ++ k ∷ [])) c.loop-index.rows = w.rows-is ∙ w.offer_text.ensures ∙ ap (λ x. map (offered_row text x) c.loop-index.rows) longer in
      record {
        characters = ap characters_of rows_are ∙ offered_characters text (p ++ k ∷ []) c.loop-index.rows ∙ c.loop-index.invariant.characters;
        least =
            λ passes a. subst (λ (rows : List WantedCharacter). AreLeast (λ d v. passes d v || is_through table repertoire d p (take (c.loop-index.index + 1) (edges table n)) v) rows) (sym rows_are)
            (seen_leaf no_names table repertoire c.requires.settled p
            (edges table n) c.loop-index.index k text c.args.rows.now c.loop-index.rows c.edge-keysym.ensures.keysym sequence texted keys c.loop-index.invariant.least passes a);
      })
]

pub returns-clause-least : goal.returns-clause-least
returns-clause-least g t c passes a =
    let table = g.U.ComposeTable.definitions c.args.new.now in
    let p = c.args.keys.now in
    let path : node table c.args.node.0 ≡ p = sym c.requires.path in
    seen_all no_names table c.args.repertoire.now c.requires.settled p c.loop-index.index c.args.rows.now c.loop-index.rows
    (let e : length (edges table p) ≡ c.edge_count-index-end.result = ap (λ q. length (edges table q)) c.requires.path ∙ sym c.edge_count-index-end.ensures in omega arith)
    (λ q b. subst (λ (x : List ℕ). AreLeast (λ d v. q d v || is_through table c.args.repertoire.now d p (take c.loop-index.index (edges table x)) v) c.loop-index.rows) path
    (c.loop-index.invariant.least q b)) passes a
