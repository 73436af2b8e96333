use Rattle.std.proofs.Common.{◌+◌, ◌||◌, ◌∙◌, [], sym, ap, min, take, arith}
use Rattle.std.specs.List.{list_any, position_or_len}
use Rattle.std.proofs.lemmas.List.{take_all}
use Rattle.compose_model.specs.Table.{has_key}
use Rattle.compose_model.specs.Nodes.{nodes, node, edges, keysyms}
use Rattle.compose_fresh.proofs.Positions.{position-none, position-or, position-same, any_more}
use Rattle.compose_fresh.proofs.Used.{keysyms_are_edges}
use Rattle.compose_fresh.proofs.fresh.first_used.Goals as goal

pub loop-number-init : goal.loop-number-init
loop-number-init g c = sym (position-none c.args.fresh.now)

pub loop-number-preserved : goal.loop-number-preserved
loop-number-preserved g c =
    let table = g.T.ComposeTable.definitions c.args.old.now in
    let n = c.loop-number.number in
    c.min-least.ensures
    ∙ ap (λ m. min m c.first_used_at.result) c.loop-number.invariant
    ∙ ap (min (position_or_len (λ k. list_any (λ p. has_key (edges table p) k) (take n (nodes table))) c.args.fresh.now)) c.first_used_at.ensures
    ∙ sym (position-or (λ k. list_any (λ p. has_key (edges table p) k) (take n (nodes table))) (has_key (edges table (node table n))) c.args.fresh.now)
    ∙ sym
    (position-same (λ k. list_any (λ p. has_key (edges table p) k) (take (n + 1) (nodes table)))
    (λ k. list_any (λ p. has_key (edges table p) k) (take n (nodes table)) || has_key (edges table (node table n)) k)
    (λ k. any_more (λ p. has_key (edges table p) k) (nodes table) n [] (omega (arith, c.node_count-number-end.ensures.count))) c.args.fresh.now)

pub returns : goal.returns
returns g c =
    let table = g.T.ComposeTable.definitions c.args.old.now in
    c.loop-number.invariant
    ∙ ap (λ ps. position_or_len (λ k. list_any (λ p. has_key (edges table p) k) ps) c.args.fresh.now)
    (take_all c.loop-number.number (nodes table) (omega (arith, c.node_count-number-end.ensures.count)))
    ∙ position-same (λ k. list_any (λ p. has_key (edges table p) k) (nodes table)) (has_key (keysyms table)) (keysyms_are_edges table) c.args.fresh.now
