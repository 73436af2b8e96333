use Rattle.std.proofs.Common.{◌≡◌, ◌++◌, drop, string_bytes}
use Rattle.compose_tool.specs.Typed.{typed_lists}
use Rattle.compose_tool.proofs.typing.lines_of_lists.Given as goal

-- the lines so far and those of the lists that are left are the lines of all lists
abbrev pub invariant-loop-count : goal.invariant-loop-count
invariant-loop-count g l =
    let table = g.T.ComposeTable.definitions l.table in
    string_bytes l.lines ++ typed_lists l.names table l.rest (drop l.count-index l.counts) ≡ typed_lists l.names table l.keys l.counts
