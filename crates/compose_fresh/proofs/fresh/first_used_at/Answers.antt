use Rattle.std.proofs.Common.{◌==◌, ◌+◌, ◌||◌, ◌∙◌, sym, ap, min, take, arith}
use Rattle.std.specs.List.{position_or_len}
use Rattle.std.proofs.lemmas.List.{take_all}
use Rattle.compose_model.specs.Table.{has_key}
use Rattle.compose_model.specs.Nodes.{node, edges}
use Rattle.compose_fresh.proofs.Positions.{position-none, position-or, position-same, key_more}
use Rattle.compose_fresh.proofs.fresh.first_used_at.Goals as goal

pub loop-index-init : goal.loop-index-init
loop-index-init g c = sym (position-none c.args.fresh.now)

pub loop-index-preserved : goal.loop-index-preserved
loop-index-preserved g c =
    let table = g.T.ComposeTable.definitions c.args.old.now in
    let es = edges table (node table c.args.node.0) in
    c.min-least.ensures
    ∙ ap (λ n. min n c.index_of.result) c.loop-index.invariant
    ∙ ap (min (position_or_len (has_key (take c.loop-index.index es)) c.args.fresh.now)) c.index_of.ensures
    ∙ sym (position-or (has_key (take c.loop-index.index es)) (λ k. k == c.edge-keysym.result.0) c.args.fresh.now)
    ∙ sym (position-same (has_key (take (c.loop-index.index + 1) es)) (λ k. has_key (take c.loop-index.index es) k || k == c.edge-keysym.result.0)
    (λ k. key_more es c.loop-index.index c.edge-keysym.result.0 k c.edge-keysym.ensures.keysym) c.args.fresh.now)

pub returns : goal.returns
returns g c =
    let table = g.T.ComposeTable.definitions c.args.old.now in
    let es = edges table (node table c.args.node.0) in
    c.loop-index.invariant ∙ ap (λ es. position_or_len (has_key es) c.args.fresh.now) (take_all c.loop-index.index es (omega (arith, c.edge_count-index-end.ensures)))
