use Rattle.std.proofs.Common.{◌≡◌, ℕ, take}
use Rattle.compose_diff.specs.Causes.{count_at, counted_in}
use Rattle.compose_diff.proofs.cause.count_by_source.Given as goal

-- the rows so far are counted for each source
abbrev pub invariant-loop-row : goal.invariant-loop-row
invariant-loop-row l = (source : ℕ) → count_at l.counts source ≡ counted_in l.removed_alone source (take l.row-index l.rows)
