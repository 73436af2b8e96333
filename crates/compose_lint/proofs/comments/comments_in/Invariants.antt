use Rattle.std.proofs.Common.{◌≡◌, take}
use Rattle.compose_lint.specs.Lines.{all_lines}
use Rattle.compose_lint.specs.Comments.{comments_in}
use Rattle.compose_lint.proofs.comments.comments_in.Given as goal

-- the comments of the files so far
abbrev pub invariant-loop-file : goal.invariant-loop-file
invariant-loop-file l = l.notes.items ≡ comments_in (all_lines (take l.file-index l.files))
