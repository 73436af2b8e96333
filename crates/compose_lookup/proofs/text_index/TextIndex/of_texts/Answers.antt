use Rattle.std.proofs.Common.{◌≡◌, ◌∙◌, ap₂, map}
use Rattle.compose_lookup.specs.TextIndex.{by_length, giving_one}
use Rattle.compose_lookup.proofs.Order.{made}
use Rattle.compose_lookup.proofs.text_index.TextIndex.of_texts.Goals as goal

pub returns : goal.returns
returns g c = λ text among.
    (let table = g.T.ComposeTable.definitions c.args.table.now in
    let texts = map (λ t. t.now) c.args.texts.now in
    let giving = c.deref-2.ensures.value ∙ c.in_ok-giving.ensures texts c.in_ok-asked.ensures in
    let are : c.in_ok-leaves.leaves.items ≡ by_length c.in_ok-lengths.lengths.items (giving_one table texts) = c.in_ok-leaves.ensures ∙ ap₂ by_length c.deref.ensures.value giving in
    made table c.node_count.ensures.settled c.in_ok-lengths.lengths.items texts c.in_ok-leaves.leaves.items c.sort_by_text.new.leaves.items c.in_ok-lengths.ensures.lengths are
    c.sort_by_text.ensures.permutation c.in_ok-sort_by_text.ensures.sorted c.sort_by_text.ensures.stable text among)
