use Rattle.std.proofs.Common.{◌≡◌, take, map}
use Rattle.compose_diff.specs.Lost.{lost_rows, old_text}
use Rattle.compose_diff.proofs.lost.old_texts.Given as goal

abbrev pub invariant-loop-row : goal.invariant-loop-row
invariant-loop-row l = map (λ text. text.now) l.texts.items ≡ map old_text (lost_rows (take l.row-index l.rows))
