use Rattle.std.proofs.Common.{string_bytes}
use Rattle.compose_walk.proofs.Reported.{counts}
use Rattle.compose_walk.proofs.evidence_text.push_count.Goals as goal

pub returns : goal.returns
returns c =
    counts c.args.differences.now (string_bytes c.args.text.now)
    (string_bytes c.write.new.self) c.count_word-word.result.now c.count_of-texts.result c.count_of-cancelled.result c.count_of-waiting.result
    c.count_word-word.ensures c.count_of-texts.ensures c.count_of-cancelled.ensures c.count_of-waiting.ensures c.in_ok-write.ensures.bytes
