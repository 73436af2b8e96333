use Rattle.std.proofs.Common.{◌≡◌, ◌∙◌, ◌++◌, ◌∷◌, [], ℕ, List, Option, Some, None, sym, ap, arith, string_bytes}
use Rattle.std.specs.Prelude.{Result, Ok, Err, OnOk}
use Rattle.keysym_core.specs.Printed.{printed}
use Rattle.compose_model.specs.Table.{text_at}
use Rattle.compose_model.specs.Nodes.{node, edges}
use Rattle.compose_compare.proofs.Children.{to_node, to_leaf, child_path}
use Rattle.compose_lookup.specs.Lookup.{count_after}
use Rattle.compose_listing.specs.Next.{leads, next_line}
use Rattle.compose_listing.proofs.Followed.{leaf_has, node_has, line_more, all_lines}
use Rattle.compose_listing.proofs.next.lines_from.Goals.{in-Leaf+in_ok-push_text-in-Leaf, in-Node+in_ok-push_count-in-Node}
use Rattle.compose_listing.proofs.next.lines_from.Goals as goal

when_ok : {X E P : Type 0} (r : Result X E) (x : X) → r ≡ Ok x → OnOk r P → P
when_ok (Ok y) x e h = h
when_ok (Err f) x e h = cc

pub sequences_after-requires : goal.sequences_after-requires
sequences_after-requires g c =
    let table = g.T.ComposeTable.definitions c.args.table.now in
    (to_node table (node table c.args.node.0) c.edge-keysym.result.0 c.edge-keysym.result.1 c.in-Node.child c.edge-keysym.ensures.target c.in-Node.is).in_range

pub loop-index-preserved : goal.loop-index-preserved
loop-index-preserved g c = elim c.match-target.branch [
  | in-Leaf+in_ok-push_text-in-Leaf w ↦ (
      let table = g.T.ComposeTable.definitions c.args.table.now in
      let p = node table c.args.node.0 in
      let k = c.edge-keysym.result.0 in
      let form = c.args.form in
      let key = printed c.args.names.now k in
      let n = count_after table (p ++ k ∷ []) in
      let leaf = w.in-Leaf.leaf in
      let text = w.text_of.result.now in
      let before = string_bytes c.loop-index.lines in
      let to = to_leaf table p k c.edge-keysym.result.1 leaf c.edge-keysym.ensures.target w.in-Leaf.is in
      let expected : string_bytes w.push_text.new.lines ≡ before ++ (leads form w.deref.result.now (Some text) n ++ 10 ∷ []) = when_ok w.push_text.result w.in_ok-push_text-in-Leaf.field-0 w.in_ok-push_text-in-Leaf.was
      (w.push_text.ensures n) in
      line_more (next_line form c.args.names.now table p) (edges table p) c.loop-index.index k before (string_bytes c.match-target.lines) c.edge-keysym.ensures.keysym c.loop-index.invariant
      (ap string_bytes w.lines-is ∙ expected ∙ ap (λ q. before ++ (leads form q (Some text) n ++ 10 ∷ [])) (w.deref.ensures ∙ c.in_ok-key.ensures)
      ∙ ap (λ (o : Option (List ℕ)). before ++ (leads form key o n ++ 10 ∷ []))
      (ap (λ (t : List ℕ). Some t) w.text_of.ensures ∙ sym (leaf_has table c.node_count.ensures.settled p k leaf to))))
  | in-Node+in_ok-push_count-in-Node w ↦ (
      let table = g.T.ComposeTable.definitions c.args.table.now in
      let p = node table c.args.node.0 in
      let k = c.edge-keysym.result.0 in
      let form = c.args.form in
      let key = printed c.args.names.now k in
      let child = w.in-Node.child in
      let n = w.sequences_after.result in
      let before = string_bytes c.loop-index.lines in
      let to = to_node table p k c.edge-keysym.result.1 child c.edge-keysym.ensures.target w.in-Node.is in
      let expected : string_bytes w.push_count.new.lines ≡ before ++ (leads form w.deref-in-Node.result.now None n ++ 10 ∷ []) = w.in_ok-push_count-in-Node.ensures in
      line_more (next_line form c.args.names.now table p) (edges table p) c.loop-index.index k before (string_bytes c.match-target.lines) c.edge-keysym.ensures.keysym c.loop-index.invariant
      (ap string_bytes w.lines-is ∙ expected ∙ ap (λ q. before ++ (leads form q None n ++ 10 ∷ [])) (w.deref-in-Node.ensures ∙ c.in_ok-key.ensures)
      ∙ ap (λ (o : Option (List ℕ)). before ++ (leads form key o n ++ 10 ∷ [])) (sym (node_has table c.node_count.ensures.settled p k child to))
      ∙ ap (λ (m : ℕ). before ++ (leads form key (text_at table (p ++ k ∷ [])) m ++ 10 ∷ [])) (w.sequences_after.ensures ∙ ap (count_after table) (sym (child_path table p k child to)))))
]

pub returns : goal.returns
returns g c =
    let table = g.T.ComposeTable.definitions c.args.table.now in
    let p = node table c.args.node.0 in
    all_lines (next_line c.args.form c.args.names.now table p) (edges table p) c.loop-index.index (string_bytes c.loop-index.lines)
    (let e = c.edge_count-index-end.ensures in omega (arith, c.loop-index-test.false)) c.loop-index.invariant
