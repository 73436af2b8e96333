use Rattle.std.proofs.Common.{◌≡◌, ◌∙◌, sym, ap, arith}
use Rattle.compose_model.specs.Nodes.{node}
use Rattle.compose_model.proofs.NodeLemmas.{node_zero}
use Rattle.compose_details.proofs.pairs.keys_to.Goals as goal

pub returns-then-number-eq0 : goal.returns-then-number-eq0
returns-then-number-eq0 g c =
    let table = g.T.ComposeTable.definitions c.args.table.now in
    let zero : c.args.number ≡ 0 = omega (arith, c.if-number-eq0.true) in
    c.new.ensures.items ∙ sym (node_zero table) ∙ ap (node table) (sym zero)
