use Rattle.std.proofs.Common.{◌≡◌, drop}
use Rattle.std.specs.List.{list_all}
use Rattle.compose_compare.specs.Change.{is_harmless}
use Rattle.compose_compare.proofs.comparison.are_kept.Given as goal

-- the changes that are left are harmless exactly if all of them are
abbrev pub invariant-loop-change : goal.invariant-loop-change
invariant-loop-change l = list_all is_harmless (drop l.change-index l.changes) ≡ list_all is_harmless l.changes
