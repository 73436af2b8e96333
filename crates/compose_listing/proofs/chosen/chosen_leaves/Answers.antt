use Rattle.std.proofs.Common.{◌≡◌, ◌∙◌, true, false, arith, rules, sym, ap, map, subst, List}
use Rattle.std.specs.Prelude.{option_copied}
use Rattle.std.specs.List.{All}
use Rattle.compose_tree.specs.declared.table.LeafId.{LeafId}
use Rattle.compose_lookup.specs.TextIndex.{IsLeaf, sequence_at}
use Rattle.compose_listing.specs.Leaves.{is_chosen}
use Rattle.compose_listing.proofs.Lines.{numbered_yes, numbered_no, chosen_are, chosen_within}
use Rattle.compose_listing.proofs.chosen.chosen_leaves.Goals.{then-is_chosen+in_ok-push, else-is_chosen}
use Rattle.compose_listing.proofs.chosen.chosen_leaves.Goals as goal

pub loop-number-preserved : goal.loop-number-preserved
loop-number-preserved g c = elim c.if-is_chosen.branch [
  | then-is_chosen+in_ok-push w ↦ (
      let f = is_chosen (g.T.ComposeTable.definitions c.args.listed.now.table.now) c.args.prefix.now (option_copied c.args.text) in
      numbered_yes f c.loop-number.number c.loop-number.chosen.items _ c.loop-number.invariant (sym c.is_chosen.ensures ∙ w.if-is_chosen.true) (search rules))
  | else-is_chosen w ↦ (
      let f = is_chosen (g.T.ComposeTable.definitions c.args.listed.now.table.now) c.args.prefix.now (option_copied c.args.text) in
      numbered_no f c.loop-number.number c.loop-number.chosen.items _ c.loop-number.invariant (sym c.is_chosen.ensures ∙ w.if-is_chosen.false) (search rules))
]

pub returns-clause-sequences : goal.returns-clause-sequences
returns-clause-sequences g c =
    let table = g.T.ComposeTable.definitions c.args.listed.now.table.now in
    ap (map (sequence_at table)) c.loop-number.invariant
    ∙ chosen_are table c.node_count.ensures.settled c.args.prefix.now (option_copied c.args.text) c.loop-number.number
    (omega (arith, c.loop-number-test.false, c.loop-number.auto.number-end, c.leaf_count-number-end.ensures))

pub returns-clause-in_table : goal.returns-clause-in_table
returns-clause-in_table g c =
    let table = g.T.ComposeTable.definitions c.args.listed.now.table.now in
    subst (λ (ls : List LeafId). All (IsLeaf table) ls) (sym c.loop-number.invariant)
    (chosen_within table c.args.prefix.now (option_copied c.args.text) c.loop-number.number
    (omega (arith, c.loop-number-test.false, c.loop-number.auto.number-end, c.leaf_count-number-end.ensures)))
