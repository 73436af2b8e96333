use Rattle.std.proofs.Common.{◌≡◌, ◌++◌, drop, string_bytes}
use Rattle.std.specs.List.{flat_map}
use Rattle.compose_model.specs.Step.{steps_from}
use Rattle.compose_tool.specs.Typed.{typed_line, typed_lines}
use Rattle.compose_tool.proofs.typing.lines_of_keys.Given as goal

-- the lines so far and those of the keys that are left are the lines of all keys
abbrev pub invariant-loop-keysym : goal.invariant-loop-keysym
invariant-loop-keysym g l =
    let table = g.T.ComposeTable.definitions l.table in
    string_bytes l.lines ++ flat_map typed_line (steps_from l.names table l.state.pending (drop l.keysym-index l.keys)) ≡ typed_lines l.names table l.keys
