use Rattle.std.proofs.Common.{◌≡◌, ◌++◌, drop}
use Rattle.compose_lint.specs.Comments.{comments_in}
use Rattle.compose_lint.proofs.comments.push_comments.Given as goal

-- the comments so far, and those of the remaining lines, are all
abbrev pub invariant-loop-line : goal.invariant-loop-line
invariant-loop-line l = l.notes.items ++ comments_in (drop l.line-index l.lines) ≡ l.fn.notes.items ++ comments_in l.lines
