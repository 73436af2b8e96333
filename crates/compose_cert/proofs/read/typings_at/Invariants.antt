use Rattle.std.proofs.Common.{◌≡◌, ◌+◌, ◌-◌}
use Rattle.compose_text.specs.Lines.{divide}
use Rattle.compose_cert.specs.Reading.{times, typing_at}
use Rattle.compose_cert.specs.StepReturns.{behind}
use Rattle.compose_cert.proofs.read.typings_at.Given as goal

-- the typings so far, and the remaining ones after them, are all of them
abbrev pub invariant-loop-index : goal.invariant-loop-index
invariant-loop-index l =
    behind l.typings.items (times typing_at (l.count - l.index) (l.line + l.index) (divide 10 l.rest)) ≡ times typing_at l.count l.line (divide 10 l.bytes)
