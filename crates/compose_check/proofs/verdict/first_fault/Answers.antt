use Rattle.std.proofs.Common.{◌∙◌, sym, ap}
use Rattle.compose_fresh.specs.Conditions.{first_unmet}
use Rattle.compose_fresh.specs.Fresh.{fresh_conditions}
use Rattle.compose_check.specs.Conditions.{start_conditions, bound_conditions}
use Rattle.compose_fresh.proofs.Unmet.{none_left}
use Rattle.compose_check.proofs.Groups.{fresh_fault, start_fault, pairs_fit, edge_fault, bound_fault, typing_faults}
use Rattle.compose_check.proofs.verdict.first_fault.Goals as goal

pub returns-in-Some-check_fresh-clause-exact : goal.returns-in-Some-check_fresh-clause-exact
returns-in-Some-check_fresh-clause-exact g c =
    let old = g.T.ComposeTable.definitions c.args.old.now in
    let new = g.U.ComposeTable.definitions c.args.new.now in
    fresh_fault c.args.names.now old new c.args.repertoire.now c.args.certificate.now
    (sym (c.check_pairs.ensures old new c.node_count.ensures.count c.node_count-2.ensures.count) ∙ none_left c.check_pairs.result c.in_default.not-Some)
    c.in-Some-check_fresh.fault (ap (λ fs. first_unmet (fresh_conditions old fs)) (sym c.fresh_keys-fresh.ensures) ∙ sym c.check_fresh.ensures.exact ∙ c.in-Some-check_fresh.is)

pub returns-in-Some-check_starts-clause-exact : goal.returns-in-Some-check_starts-clause-exact
returns-in-Some-check_starts-clause-exact g c =
    let old = g.T.ComposeTable.definitions c.args.old.now in
    let new = g.U.ComposeTable.definitions c.args.new.now in
    start_fault c.args.names.now old new c.args.repertoire.now c.args.certificate.now
    (sym (c.check_pairs.ensures old new c.node_count.ensures.count c.node_count-2.ensures.count) ∙ none_left c.check_pairs.result c.in_default.not-Some)
    (ap (λ fs. first_unmet (fresh_conditions old fs)) (sym c.fresh_keys-fresh.ensures) ∙ sym c.check_fresh.ensures.exact ∙ none_left c.check_fresh.result c.in_default-check_fresh.not-Some)
    c.in-Some-check_starts.fault (ap (λ fs. first_unmet (start_conditions c.args.names.now fs old new)) (sym c.fresh_keys-fresh.ensures) ∙ sym c.check_starts.ensures ∙ c.in-Some-check_starts.is)

pub check_edges-requires-clause-rise : goal.check_edges-requires-clause-rise
check_edges-requires-clause-rise g c =
    let old = g.T.ComposeTable.definitions c.args.old.now in
    let new = g.U.ComposeTable.definitions c.args.new.now in
    (pairs_fit c.args.names.now old new c.args.repertoire.now c.args.certificate.now
    (sym (c.check_pairs.ensures old new c.node_count.ensures.count c.node_count-2.ensures.count) ∙ none_left c.check_pairs.result c.in_default.not-Some)).0

pub returns-in-Some-check_edges-clause-exact : goal.returns-in-Some-check_edges-clause-exact
returns-in-Some-check_edges-clause-exact g c =
    let old = g.T.ComposeTable.definitions c.args.old.now in
    let new = g.U.ComposeTable.definitions c.args.new.now in
    edge_fault c.args.names.now old new c.args.repertoire.now c.args.certificate.now
    (sym (c.check_pairs.ensures old new c.node_count.ensures.count c.node_count-2.ensures.count) ∙ none_left c.check_pairs.result c.in_default.not-Some)
    (ap (λ fs. first_unmet (fresh_conditions old fs)) (sym c.fresh_keys-fresh.ensures) ∙ sym c.check_fresh.ensures.exact ∙ none_left c.check_fresh.result c.in_default-check_fresh.not-Some)
    (ap (λ fs. first_unmet (start_conditions c.args.names.now fs old new)) (sym c.fresh_keys-fresh.ensures) ∙ sym c.check_starts.ensures
    ∙ none_left c.check_starts.result c.in_default-check_starts.not-Some)
    c.in-Some-check_edges.fault (sym c.check_edges.ensures ∙ c.in-Some-check_edges.is)

pub returns-in-Some-check_bound-clause-exact : goal.returns-in-Some-check_bound-clause-exact
returns-in-Some-check_bound-clause-exact g c =
    let old = g.T.ComposeTable.definitions c.args.old.now in
    let new = g.U.ComposeTable.definitions c.args.new.now in
    bound_fault c.args.names.now old new c.args.repertoire.now c.args.certificate.now
    (sym (c.check_pairs.ensures old new c.node_count.ensures.count c.node_count-2.ensures.count) ∙ none_left c.check_pairs.result c.in_default.not-Some)
    (ap (λ fs. first_unmet (fresh_conditions old fs)) (sym c.fresh_keys-fresh.ensures) ∙ sym c.check_fresh.ensures.exact ∙ none_left c.check_fresh.result c.in_default-check_fresh.not-Some)
    (ap (λ fs. first_unmet (start_conditions c.args.names.now fs old new)) (sym c.fresh_keys-fresh.ensures) ∙ sym c.check_starts.ensures
    ∙ none_left c.check_starts.result c.in_default-check_starts.not-Some) (sym c.check_edges.ensures ∙ none_left c.check_edges.result c.in_default-check_edges.not-Some)
    c.in-Some-check_bound.fault (ap (λ n. first_unmet (bound_conditions new n)) (sym c.bound.ensures) ∙ sym c.check_bound.ensures ∙ c.in-Some-check_bound.is)

pub returns-clause-exact : goal.returns-clause-exact
returns-clause-exact g c =
    let old = g.T.ComposeTable.definitions c.args.old.now in
    let new = g.U.ComposeTable.definitions c.args.new.now in
    c.check_typings.ensures
    ∙ typing_faults c.args.names.now old new c.args.repertoire.now c.args.certificate.now
    (sym (c.check_pairs.ensures old new c.node_count.ensures.count c.node_count-2.ensures.count) ∙ none_left c.check_pairs.result c.in_default.not-Some)
    (ap (λ fs. first_unmet (fresh_conditions old fs)) (sym c.fresh_keys-fresh.ensures) ∙ sym c.check_fresh.ensures.exact ∙ none_left c.check_fresh.result c.in_default-check_fresh.not-Some)
    (ap (λ fs. first_unmet (start_conditions c.args.names.now fs old new)) (sym c.fresh_keys-fresh.ensures) ∙ sym c.check_starts.ensures
    ∙ none_left c.check_starts.result c.in_default-check_starts.not-Some) (sym c.check_edges.ensures ∙ none_left c.check_edges.result c.in_default-check_edges.not-Some)
    (ap (λ n. first_unmet (bound_conditions new n)) (sym c.bound.ensures) ∙ sym c.check_bound.ensures ∙ none_left c.check_bound.result c.in_default-check_bound.not-Some)
