use Rattle.std.proofs.Common.{◌∙◌, ◌&&◌, sym, length, ltb-true}
use Rattle.std.specs.Prelude.{nat_lt}
use Rattle.std.proofs.lemmas.Bool.{and_parts}
use Rattle.compose_model.specs.Nodes.{nodes}
use Rattle.compose_check.proofs.Lists.{all_at}
use Rattle.compose_fresh.proofs.Unmet.{none_left}
use Rattle.compose_check.proofs.EdgeConditions.{pair_unmet, pair_met}
use Rattle.compose_check.proofs.edges.check_edges.Goals as goal

pub check_pair-requires-clause-old_in_range : goal.check_pair-requires-clause-old_in_range
check_pair-requires-clause-old_in_range g c =
    let old = g.T.ComposeTable.definitions c.args.old.now in
    let new = g.U.ComposeTable.definitions c.args.new.now in
    let p = c.pair-old_number.result in
    let both =
    and_parts (nat_lt p.0 (length (nodes old))) (nat_lt p.1 (length (nodes new)))
    (all_at (λ p. nat_lt p.0 (length (nodes old)) && nat_lt p.1 (length (nodes new))) c.args.certificate.now.pairs c.loop-index.index p c.requires.in_range c.pair-old_number.ensures) in
    ltb-true p.0 (length (nodes old)) both.0

pub check_pair-requires-clause-new_in_range : goal.check_pair-requires-clause-new_in_range
check_pair-requires-clause-new_in_range g c =
    let old = g.T.ComposeTable.definitions c.args.old.now in
    let new = g.U.ComposeTable.definitions c.args.new.now in
    let p = c.pair-old_number.result in
    let both =
    and_parts (nat_lt p.0 (length (nodes old))) (nat_lt p.1 (length (nodes new)))
    (all_at (λ p. nat_lt p.0 (length (nodes old)) && nat_lt p.1 (length (nodes new))) c.args.certificate.now.pairs c.loop-index.index p c.requires.in_range c.pair-old_number.ensures) in
    ltb-true p.1 (length (nodes new)) both.1

pub returns-in-Some : goal.returns-in-Some
returns-in-Some g c =
    let old = g.T.ComposeTable.definitions c.args.old.now in
    let new = g.U.ComposeTable.definitions c.args.new.now in
    sym
    (pair_unmet c.args.names.now old new c.args.certificate.now.pairs c.args.certificate.now.pairs c.loop-index.index c.pair-old_number.result c.pair-old_number.ensures c.in-Some.fault
    (sym c.check_pair.ensures ∙ c.in-Some.is))
    ∙ c.loop-index.invariant

pub loop-index-preserved : goal.loop-index-preserved
loop-index-preserved g c =
    let old = g.T.ComposeTable.definitions c.args.old.now in
    let new = g.U.ComposeTable.definitions c.args.new.now in
    pair_met c.args.names.now old new c.args.certificate.now.pairs c.args.certificate.now.pairs c.loop-index.index c.pair-old_number.result c.pair-old_number.ensures
    (sym c.check_pair.ensures ∙ none_left c.check_pair.result c.in_default.not-Some)
    ∙ c.loop-index.invariant
