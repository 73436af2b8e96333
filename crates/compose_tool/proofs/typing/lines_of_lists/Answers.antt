use Rattle.std.proofs.Common.{string_bytes, ◌<◌, length, arith}
use Rattle.compose_tool.proofs.Lists.{lists_more}
use Rattle.compose_tool.proofs.typing.lines_of_lists.Goals as goal

pub loop-count-preserved : goal.loop-count-preserved
loop-count-preserved g c =
    let table = g.T.ComposeTable.definitions c.args.table.now in let counts = c.args.counts.now in let index = c.loop-count.count-index in
    let within : index < length counts = omega arith in
    lists_more c.args.names.now table c.loop-count.rest.now c.first_keys.result.0.now c.first_keys.result.1.now counts index _ (string_bytes c.loop-count.lines) (string_bytes c.push_list.new.lines) _
    within c.first_keys.ensures.first c.first_keys.ensures.others c.in_ok-push_list.ensures c.loop-count.invariant
