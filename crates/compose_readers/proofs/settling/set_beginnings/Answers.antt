use Rattle.std.proofs.Common.{◌≡◌, List, ℕ, arith}
use Rattle.std.specs.Prelude.{bytes_eq}
use Rattle.indexmap.specs.IndexMap.{get_by}
use Rattle.compose_readers.proofs.Prefixes.{one_set}
use Rattle.compose_readers.proofs.settling.set_beginnings.Goals as goal

pub loop-len-preserved : goal.loop-len-preserved
loop-len-preserved c = λ q.
    (let t = c.loop-len-test.true in
    one_set c.args.keys.now q c.loop-len.len c.args.index (get_by (λ k. bytes_eq q k.now) c.loop-len.first) _ (get_by (λ k. bytes_eq q k.now) c.args.first.now) (omega (arith, t))
    (c.loop-len.invariant q) (c.in_ok-insert.ensures.updates.0 (record { ref_ptr = c.args.keys.ref_ptr; now = q })))
