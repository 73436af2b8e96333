use Rattle.std.proofs.Common.{◌≡◌, map, take}
use Rattle.compose_lint.specs.Comments.{turned}
use Rattle.compose_lint.proofs.comments.texts_of.Given as goal

-- the notes so far are turned
abbrev pub invariant-loop-note : goal.invariant-loop-note
invariant-loop-note l = l.texts.items ≡ map turned (take l.note-index l.notes)
