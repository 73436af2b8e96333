use Rattle.std.proofs.Common.{◌≡◌, sym, ap, subst, ℕ, List, Some, None, rules}
use Rattle.compose_state.specs.NodeIds.{node_id}
use Rattle.compose_state.proofs.PathNodes.{node_found, no_node, no_node_no_target}
use Rattle.compose_tree.specs.Targets.{target_of}
use Rattle.compose_c.specs.Results.{result_at}
use Rattle.compose_c.proofs.results.result_of.Goals as goal

pub result_behind-requires : goal.result_behind-requires
result_behind-requires g c =
    let table = g.T.ComposeTable.definitions c.args.table.now in
    let e : node_id table c.args.pending.now ≡ Some c.in-Some.node = search rules in
    (node_found table c.args.pending.now c.in-Some.node e).in_range

pub returns-in-Some : goal.returns-in-Some
returns-in-Some g c =
    let table = g.T.ComposeTable.definitions c.args.table.now in
    let e : node_id table c.args.pending.now ≡ Some c.in-Some.node = search rules in
    let P : List ℕ → Type 0 = λ q. c.result_behind.result ≡ result_at c.args.results.now (target_of table q c.args.keysym) in
    subst P (node_found table c.args.pending.now c.in-Some.node e).is c.result_behind.ensures

pub returns-in-None : goal.returns-in-None
returns-in-None g c =
    let table = g.T.ComposeTable.definitions c.args.table.now in
    let none : node_id table c.args.pending.now ≡ None = search rules in
    sym (ap (result_at c.args.results.now) (no_node_no_target table c.args.pending.now c.args.keysym (no_node table c.args.pending.now none)))
