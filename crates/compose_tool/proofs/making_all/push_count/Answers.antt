use Rattle.std.proofs.Common.{string_bytes}
use Rattle.compose_tool.proofs.Untypable.{counted}
use Rattle.compose_tool.proofs.making_all.push_count.Goals as goal

pub returns : goal.returns
returns c =
    counted c.args.old.now c.args.new.now (string_bytes c.args.text.now)
    (string_bytes c.write.new.self) c.count_alone-alone.result c.count_of_both-both.result c.count_alone-alone.ensures c.count_of_both-both.ensures c.in_ok-write.ensures.bytes
