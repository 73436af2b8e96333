use Rattle.std.proofs.Common.{arith, refl, sym, ◌∙◌, ap}
use Rattle.compose_model.proofs.NodeLemmas.{node_zero}
use Rattle.compose_tree.specs.Targets.{target_of}
use Rattle.compose_walk.proofs.Starts.{root_below, start_found, start_passed, starts_all}
use Rattle.compose_walk.proofs.pass.find_new_starts.Goals as goal

pub edge_count-index-end-requires : goal.edge_count-index-end-requires
edge_count-index-end-requires g c = root_below (g.U.ComposeTable.definitions c.args.new.now)

pub edge-keysym-requires-clause-node_in_range : goal.edge-keysym-requires-clause-node_in_range
edge-keysym-requires-clause-node_in_range g c = root_below (g.U.ComposeTable.definitions c.args.new.now)

pub is_differing_start-requires-clause-target : goal.is_differing_start-requires-clause-target
is_differing_start-requires-clause-target g c =
    ap (λ p. target_of (g.U.ComposeTable.definitions c.args.new.now) p c.edge-keysym.result.0) (sym (node_zero (g.U.ComposeTable.definitions c.args.new.now))) ∙ c.edge-keysym.ensures.target

pub loop-index-preserved : goal.loop-index-preserved
loop-index-preserved g c =
    start_found c.args.names.now c.args.fresh.now (g.T.ComposeTable.definitions c.args.old.now)
    (g.U.ComposeTable.definitions c.args.new.now) c.loop-index.index c.edge-keysym.result.0 c.loop-index.found.items c.edge-keysym.ensures.keysym c.loop-index.invariant
    (sym c.is_differing_start.ensures ∙ c.if-not-is_differing_start.false) _ refl refl refl c.push.new.self.items c.in_ok-push.ensures.items

pub loop-index-preserved-then-not-is_differing_start : goal.loop-index-preserved-then-not-is_differing_start
loop-index-preserved-then-not-is_differing_start g c =
    start_passed c.args.names.now c.args.fresh.now (g.T.ComposeTable.definitions c.args.old.now)
    (g.U.ComposeTable.definitions c.args.new.now) c.loop-index.index c.edge-keysym.result.0 c.loop-index.found.items c.edge-keysym.ensures.keysym c.loop-index.invariant
    (sym c.is_differing_start.ensures ∙ c.if-not-is_differing_start.true)

pub returns-clause-found : goal.returns-clause-found
returns-clause-found g c =
    c.loop-index.invariant
    ∙ starts_all c.args.names.now c.args.fresh.now (g.T.ComposeTable.definitions c.args.old.now) (g.U.ComposeTable.definitions c.args.new.now) c.loop-index.index
    (omega (arith, c.edge_count-index-end.ensures))
