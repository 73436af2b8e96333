use Rattle.std.proofs.Common.{string_bytes}
use Rattle.compose_tool.specs.Typed.{typed_lines, fed_line}
use Rattle.compose_tool.proofs.OneKey.{line_is, lines_more}
use Rattle.compose_tool.proofs.typing.lines_of_keys.Goals as goal

pub loop-keysym-preserved : goal.loop-keysym-preserved
loop-keysym-preserved g c =
    let table = g.T.ComposeTable.definitions c.args.table.now in
    let before = c.loop-keysym.state in
    let k = c.keysym-item.result in
    lines_more c.args.names.now table before c.feed-fed.new.self c.args.keys.now c.loop-keysym.keysym-index k k (string_bytes c.loop-keysym.lines) (fed_line c.feed-fed.result)
    (string_bytes c.push_line.new.lines)
    (typed_lines c.args.names.now table c.args.keys.now) c.loop-keysym-test.true c.keysym-item.is c.feed-fed.ensures.state
    (line_is c.args.names.now table before k c.feed-fed.result c.feed-fed.ensures.reported)
    c.in_ok-push_line.ensures c.loop-keysym.invariant
