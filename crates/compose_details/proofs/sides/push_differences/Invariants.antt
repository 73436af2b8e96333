use Rattle.std.proofs.Common.{◌≡◌, ◌++◌, take, string_bytes}
use Rattle.compose_details.specs.Sides.{lines_of_differences}
use Rattle.compose_details.proofs.sides.push_differences.Given as goal

-- the lines of the differences so far are added
abbrev pub invariant-loop-difference : goal.invariant-loop-difference
invariant-loop-difference l = string_bytes l.text ≡ string_bytes l.fn.text ++ lines_of_differences l.old l.new (take l.difference-index l.differences)
