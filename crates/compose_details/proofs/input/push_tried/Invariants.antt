use Rattle.std.proofs.Common.{◌≡◌, ◌++◌, take, string_bytes}
use Rattle.std.specs.Prelude.{flat_map}
use Rattle.compose_details.specs.Input.{unopened_line}
use Rattle.compose_details.proofs.input.push_tried.Given as goal

-- the lines of the paths so far are added
abbrev pub invariant-loop-unopened : goal.invariant-loop-unopened
invariant-loop-unopened l = string_bytes l.text ≡ string_bytes l.fn.text ++ flat_map unopened_line (take l.unopened-index l.tried)
