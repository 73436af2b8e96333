use Rattle.std.proofs.Common.{◌≡◌, ◌∙◌, [], sym, ap, subst, length, arith}
use Rattle.std.specs.Prelude.{Some, slice_get, map}
use Rattle.std.proofs.lemmas.List.{drop_all}
use Rattle.compose_model.specs.Nodes.{edges}
use Rattle.compose_model.proofs.NodeLemmas.{node_zero}
use Rattle.compose_tree.specs.Targets.{target_of}
use Rattle.compose_fresh.specs.Conditions.{first_unmet}
use Rattle.compose_check.specs.Conditions.{start_condition}
use Rattle.compose_fresh.proofs.Unmet.{one_unmet_at, one_met_at}
use Rattle.compose_check.proofs.StartConditions.{has_root}
use Rattle.compose_check.proofs.starts.check_starts.Goals as goal

pub edge_count-index-end-requires : goal.edge_count-index-end-requires
edge_count-index-end-requires g c = has_root (g.U.ComposeTable.definitions c.args.new.now)

pub edge-keysym-requires-clause-node_in_range : goal.edge-keysym-requires-clause-node_in_range
edge-keysym-requires-clause-node_in_range g c = has_root (g.U.ComposeTable.definitions c.args.new.now)

pub is_kept-requires-clause-leads : goal.is_kept-requires-clause-leads
is_kept-requires-clause-leads g c =
    let new = g.U.ComposeTable.definitions c.args.new.now in
    subst (λ p. target_of new p c.edge-keysym.result.0 ≡ Some c.edge-keysym.result.1) (node_zero new) c.edge-keysym.ensures.target

pub returns-then-not-is_kept : goal.returns-then-not-is_kept
returns-then-not-is_kept g c =
    let old = g.T.ComposeTable.definitions c.args.old.now in
    let new = g.U.ComposeTable.definitions c.args.new.now in
    let k = c.edge-keysym.result.0 in
    sym (one_unmet_at (start_condition c.args.names.now c.args.fresh.now old new) (edges new []) c.loop-index.index k
    (subst (λ p. slice_get (edges new p) c.loop-index.index ≡ Some k) (node_zero new) c.edge-keysym.ensures.keysym) (sym c.is_kept.ensures ∙ c.if-not-is_kept.true))
    ∙ c.loop-index.invariant

pub loop-index-preserved : goal.loop-index-preserved
loop-index-preserved g c =
    let old = g.T.ComposeTable.definitions c.args.old.now in
    let new = g.U.ComposeTable.definitions c.args.new.now in
    let k = c.edge-keysym.result.0 in
    one_met_at (start_condition c.args.names.now c.args.fresh.now old new) (edges new []) c.loop-index.index k
    (subst (λ p. slice_get (edges new p) c.loop-index.index ≡ Some k) (node_zero new) c.edge-keysym.ensures.keysym) (sym c.is_kept.ensures ∙ c.if-not-is_kept.false)
    ∙ c.loop-index.invariant

pub returns : goal.returns
returns g c =
    let old = g.T.ComposeTable.definitions c.args.old.now in
    let new = g.U.ComposeTable.definitions c.args.new.now in
    let count = ap (λ p. length (edges new p)) (node_zero new) in
    sym
    (ap (λ ks. first_unmet (map (start_condition c.args.names.now c.args.fresh.now old new) ks))
    (drop_all c.loop-index.index (edges new []) (omega (arith, count, c.edge_count-index-end.ensures))))
    ∙ c.loop-index.invariant
