use Rattle.std.proofs.Common.{◌≡◌, take}
use Rattle.compose_merging.proofs.same_rows.are_same.Given as goal

-- the rows so far are the same
abbrev pub invariant-loop-index : goal.invariant-loop-index
invariant-loop-index l = take l.index l.rows ≡ take l.index l.others
