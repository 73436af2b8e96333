use Rattle.std.proofs.Common.{◌≡◌, ◌∙◌, ◌+◌, List, ℕ, map, take, sym, ap, arith}
use Rattle.compose_readers.specs.Entries.{with_node}
use Rattle.compose_readers.proofs.Nodes.{nodes_more, node_inserted}
use Rattle.compose_readers.proofs.settling.add_nodes.Goals as goal

pub loop-len-preserved : goal.loop-len-preserved
loop-len-preserved c =
    let keys = c.args.keys.now in let len = c.loop-len.len in let t = c.loop-len-test.true in
    ap (map (λ k. k.now)) c.in_ok-insert.ensures.keys
    ∙ node_inserted c.loop-len.nodes.keys (record { ref_ptr = c.args.keys.ref_ptr; now = take (len + 1) keys })
    ∙ ap (λ ns. with_node ns (take (len + 1) keys)) c.loop-len.invariant
    ∙ sym (nodes_more (map (λ k. k.now) c.args.nodes.now.keys) keys len 0 (omega (arith, t)))
