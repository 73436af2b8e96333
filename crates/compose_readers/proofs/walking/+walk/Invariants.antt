use Rattle.std.proofs.Common.{◌≡◌, ◌≤◌, ◌+◌, ◌*◌, ◌++◌, drop}
use Rattle.compose_readers.specs.Refusals.{refusal_below, refusal_from, refusal_of}
use Rattle.compose_readers.specs.Walks.{told_below, told_from, told_of}
use Rattle.compose_readers.proofs.walking.+walk.Given as goal

abbrev pub decreases-walk_file : goal.decreases-walk_file
decreases-walk_file l = 2 * l.left + 1

abbrev pub decreases-walk_included : goal.decreases-walk_included
decreases-walk_included l = 2 * l.left

-- what is told so far, and then what is told of the other lines
abbrev pub invariant-walk_file-loop-at : goal.invariant-walk_file-loop-at
invariant-walk_file-loop-at l = record {
  refusal : refusal_of l.bounds.faults (refusal_below l.files l.bounds.faults l.left) l.faults (drop l.at l.lines) ≡ refusal_from l.files l.bounds.faults l.left l.index;
  faults : l.faults ≤ l.at;
  told : l.told.items ++ told_of (told_below l.files l.left) l.index (l.at + 1) (drop l.at l.lines) ≡ l.fn.told.items ++ told_from l.files l.left l.index;
}
