use Rattle.std.proofs.Common.{◌≡◌, take}
use Rattle.compose_c.proofs.answers.files_of.Given as goal

-- the files so far are the answers so far
abbrev pub invariant-loop-answer : goal.invariant-loop-answer
invariant-loop-answer l = l.files ≡ take l.answer-index l.answers
