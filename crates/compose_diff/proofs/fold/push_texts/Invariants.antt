use Rattle.std.proofs.Common.{◌≡◌, ◌++◌, take, string_bytes}
use Rattle.compose_diff.specs.Folds.{texts_part}
use Rattle.compose_diff.proofs.fold.push_texts.Given as goal

abbrev pub invariant-loop-row : goal.invariant-loop-row
invariant-loop-row l = string_bytes l.text ≡ string_bytes l.fn.text ++ texts_part (take l.row-index l.rows)
