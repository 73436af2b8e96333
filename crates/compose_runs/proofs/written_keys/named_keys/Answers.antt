use Rattle.std.proofs.Common.{[]}
use Rattle.compose_runs.proofs.WrittenKeys.{named_step}
use Rattle.compose_runs.proofs.written_keys.named_keys.Goals as goal

pub loop-word-preserved : goal.loop-word-preserved
loop-word-preserved c =
    rw c.in_ok-push.ensures.items
    (named_step c.args.names.now c.args.words.now c.loop-word.word-index (record { ref_ptr = (0, 0); now = [] }) c.loop-word.keys.items c.in_ok-key.key c.loop-word-test.true c.loop-word.invariant c.in_ok-key.ensures)
