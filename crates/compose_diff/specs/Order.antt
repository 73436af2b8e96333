-- The order in which rows are printed (this project's profile).
use Rattle.std.specs.Prelude.{ℕ, List, Option, Some, None}
use Rattle.std.specs.declared.cmp.Ordering.{Ordering}
use Rattle.std.specs.Option.{option_or}
use Rattle.std.specs.Ordering.{nat_cmp, ordering_then}
use Rattle.std.specs.List.Sorted.{IsSortedByKey}
use Rattle.compose_compare.specs.declared.Change.{Change}
use Rattle.compose_compare.specs.declared.Change.TheVariants.{Kept, Changed, Waiting, Removed, Added, NewStart}
use Rattle.compose_diff.specs.declared.row.TextPlace.{TextPlace}
use Rattle.compose_diff.specs.declared.row.DiffRow.{DiffRow}

-- the group of a change
abbrev pub group : Change → ℕ
group Changed = 0
group Waiting = 1
group Removed = 2
group NewStart = 3
group Added = 4
group Kept = 5

-- the source and the line
abbrev pub place : Option TextPlace → ℕ × ℕ
place None = (0, 0)
place (Some entry) = (entry.source, entry.line)

-- what the old table has, or else the new one
abbrev pub first_entry : DiffRow → Option TextPlace
first_entry row = option_or row.old row.new

-- the group, and then the source and the line in the old table, or else in the new one
abbrev pub rank : DiffRow → ℕ × ℕ × ℕ
rank row = let at = place (first_entry row) in (group row.change, at.0, at.1)

-- compared by each number in turn
abbrev pub rank_cmp : ℕ × ℕ × ℕ → ℕ × ℕ × ℕ → Ordering
rank_cmp x y = ordering_then (ordering_then (nat_cmp x.0 y.0) (nat_cmp x.1 y.1)) (nat_cmp x.2 y.2)

-- no row comes after one of a higher rank
abbrev pub AreInOrder : List DiffRow → Type 0
AreInOrder rows = IsSortedByKey rank rank_cmp rows
