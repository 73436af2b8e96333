use Rattle.std.proofs.Common.{◌≡◌, ◌≤◌, ap, subst, ℕ, List, length, Some, None, rules, arith}
use Rattle.std.specs.Prelude.{MatchOption, slice_get}
use Rattle.compose_model.specs.Nodes.{edges}
use Rattle.compose_state.specs.NodeIds.{node_id}
use Rattle.compose_state.proofs.PathNodes.{node_found}
use Rattle.compose_c.proofs.Edges.{no_edges}
use Rattle.compose_c.proofs.following.following.Goals as goal

pub key_at-requires : goal.key_at-requires
key_at-requires g c =
    let table = g.T.ComposeTable.definitions c.args.table.now in
    let e : node_id table c.args.pending.now ≡ Some c.in-Some.node = search rules in
    (node_found table c.args.pending.now c.in-Some.node e).in_range

pub returns-in-Some : goal.returns-in-Some
returns-in-Some g c =
    let table = g.T.ComposeTable.definitions c.args.table.now in
    let e : node_id table c.args.pending.now ≡ Some c.in-Some.node = search rules in
    let P : List ℕ → Type 0 = λ q. MatchOption c.key_at.result (length (edges table q) ≤ c.args.index) (λ k. slice_get (edges table q) c.args.index ≡ Some k) in
    subst P (node_found table c.args.pending.now c.in-Some.node e).is c.key_at.ensures

pub returns-in-None : goal.returns-in-None
returns-in-None g c =
    let table = g.T.ComposeTable.definitions c.args.table.now in
    let none : node_id table c.args.pending.now ≡ None = search rules in
    let e : length (edges table c.args.pending.now) ≡ 0 = ap length (no_edges table c.args.pending.now none) in
    omega (arith, e)
