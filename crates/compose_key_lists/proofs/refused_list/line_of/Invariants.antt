use Rattle.std.proofs.Common.{◌≡◌, ◌+◌, drop}
use Rattle.compose_key_lists.specs.Lists.{line_from, line_of}
use Rattle.compose_key_lists.proofs.refused_list.line_of.Given as goal

-- the line of the key among the lines that are left
abbrev pub invariant-loop-place : goal.invariant-loop-place
invariant-loop-place l = line_from (1 + l.place) (drop l.place l.counts) l.left ≡ line_of l.counts l.index
