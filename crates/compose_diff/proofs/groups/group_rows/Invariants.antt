use Rattle.std.proofs.Common.{◌≡◌, filter, take}
use Rattle.compose_diff.specs.Causes.{has_gone}
use Rattle.compose_diff.specs.Groups.{has}
use Rattle.compose_diff.specs.Members.{Key, view, members_at}
use Rattle.compose_diff.proofs.groups.group_rows.Given as goal

-- each row so far is listed under what it has in common with others
abbrev pub invariant-loop-row : goal.invariant-loop-row
invariant-loop-row l = (key : Key) → members_at l.groups (view key) ≡ filter (has (has_gone l.gone) (view key)) (take l.row-index l.rows)
