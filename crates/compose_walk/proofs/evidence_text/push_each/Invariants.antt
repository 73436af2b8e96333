use Rattle.std.proofs.Common.{◌≡◌, ◌++◌, take, string_bytes}
use Rattle.compose_walk.specs.Explained.{each_explained}
use Rattle.compose_walk.proofs.evidence_text.push_each.Given as goal

abbrev pub invariant-loop-difference : goal.invariant-loop-difference
invariant-loop-difference l = string_bytes l.text ≡ string_bytes l.fn.text ++ each_explained l.names (take l.difference-index l.differences)
