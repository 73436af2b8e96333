use Rattle.std.proofs.Common.{◌≡◌, ◌++◌, take, string_bytes}
use Rattle.compose_explaining.specs.Sides.{difference_texts, lined}
use Rattle.compose_explaining.proofs.sides.push_differences.Given as goal

-- the lines of the differences so far are added
abbrev pub invariant-loop-difference : goal.invariant-loop-difference
invariant-loop-difference g l = string_bytes l.text ≡ string_bytes l.fn.text ++ difference_texts l.names (lined g.T.ComposeTable.definitions l.old_side l.old) (lined g.T.ComposeTable.definitions l.new_side l.new) (take l.difference-index l.differences)
