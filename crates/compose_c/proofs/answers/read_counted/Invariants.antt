use Rattle.std.proofs.Common.{◌≡◌, ◌-◌, []}
use Rattle.compose_c.specs.Answers.{answers_at}
use Rattle.compose_c.proofs.answers.read_counted.Given as goal

-- the answers so far and the remaining ones are all answers
abbrev pub invariant-loop-index : goal.invariant-loop-index
invariant-loop-index l = answers_at (l.fn.count - l.index) l.answers.items l.rest ≡ answers_at l.fn.count [] l.fn.bytes
