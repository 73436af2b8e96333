use Rattle.std.proofs.Common.{◌≡◌, ◌+◌, ◌-◌}
use Rattle.compose_text.specs.Lines.{divide}
use Rattle.compose_cert.specs.Reading.{times, line_at, pair_of}
use Rattle.compose_cert.specs.StepReturns.{behind}
use Rattle.compose_cert.proofs.read.pairs_at.Given as goal

-- the pairs so far, and the remaining ones after them, are all of them
abbrev pub invariant-loop-index : goal.invariant-loop-index
invariant-loop-index l =
    behind l.pairs.items (times (line_at pair_of) (l.count - l.index) (l.line + l.index) (divide 10 l.rest)) ≡ times (line_at pair_of) l.count l.line (divide 10 l.bytes)
