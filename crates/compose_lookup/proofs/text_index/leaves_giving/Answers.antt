use Rattle.std.proofs.Common.{◌≡◌, ◌∙◌, Bool, length, sym, ap, arith}
use Rattle.std.specs.Prelude.{filter}
use Rattle.compose_model.specs.Nodes.{leaves}
use Rattle.compose_tree.specs.declared.table.LeafId.{LeafId}
use Rattle.compose_lookup.specs.TextIndex.{is_among, text_of, leaf_id, leaf_ids}
use Rattle.compose_lookup.proofs.Asked.{taken, passed}
use Rattle.compose_lookup.proofs.text_index.leaves_giving.Goals as goal
use Rattle.compose_lookup.proofs.text_index.leaves_giving.Goals.{then-contains+in_ok-push, else-contains}

pub loop-number-preserved : goal.loop-number-preserved
loop-number-preserved g c = λ texts are.
    (let table = g.T.ComposeTable.definitions c.args.table.now in
    let i = c.loop-number.number in
    let gives : LeafId → Bool = (λ leaf. is_among texts (text_of table leaf)) in
    let is : c.contains.result ≡ gives (leaf_id i) = c.contains.ensures ∙ are c.text_of.result ∙ ap (is_among texts) c.text_of.ensures in
    elim c.if-contains.branch [
      | then-contains+in_ok-push w ↦ ap (λ v. v.items) w.leaves-is ∙ w.in_ok-push.ensures.items ∙ taken gives i c.loop-number.leaves.items (c.loop-number.invariant texts are) (sym is ∙ w.if-contains.true)
      | else-contains w ↦ ap (λ v. v.items) w.leaves-is ∙ passed gives i c.loop-number.leaves.items (c.loop-number.invariant texts are) (sym is ∙ w.if-contains.false)
    ])

pub returns : goal.returns
returns g c = λ texts are.
    (let table = g.T.ComposeTable.definitions c.args.table.now in
    let end = c.leaf_count-number-end.ensures in
    let all : c.loop-number.number ≡ length (leaves table) = omega (arith, c.loop-number-test.false, end) in
    c.loop-number.invariant texts are ∙ ap (λ n. filter (λ leaf. is_among texts (text_of table leaf)) (leaf_ids n)) all)
