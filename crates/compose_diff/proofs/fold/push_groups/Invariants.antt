use Rattle.std.proofs.Common.{◌≡◌, [], ◌++◌, filter, flat_map, map, take, string_bytes}
use Rattle.std.specs.Prelude.{if◌then◌else◌}
use Rattle.std.specs.List.{list_any}
use Rattle.compose_diff.specs.Causes.{has_gone}
use Rattle.compose_diff.specs.Groups.{has, firsts, group_of}
use Rattle.compose_diff.specs.Folds.{group_lines}
use Rattle.compose_diff.specs.Members.{Key, view, members_at}
use Rattle.compose_diff.proofs.fold.push_groups.Given as goal

-- the groups of the rows so far are printed and taken out
abbrev pub invariant-loop-row : goal.invariant-loop-row
invariant-loop-row l = record {
  lines : string_bytes l.text ≡ string_bytes l.fn.text ++ flat_map (group_lines (has_gone l.gone)) (map (group_of (has_gone l.gone) l.shown) (firsts (has_gone l.gone) [] (take l.row-index l.shown)));
  taken : (key : Key) → members_at l.groups (view key) ≡ (if list_any (has (has_gone l.gone) (view key)) (take l.row-index l.shown) then [] else filter (has (has_gone l.gone) (view key)) l.shown);
}
