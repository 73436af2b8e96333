-- Rows that share a line, wherever they are in the list (this project's profile).
use Rattle.std.specs.Prelude.{◌≡◌, ℕ, Bool, true, false, ◌-◌, ◌==◌, ◌&&◌, nat_lt, nat_eq, if◌then◌else◌, List, [], ◌∷◌, ◌++◌, length, take, min, map, filter, flat_map, bytes_eq, Option, Some, None, ◌⊎◌}
use Rattle.std.specs.List.{list_any}
use Rattle.std.specs.Option.{option_map_or, option_eq}
use Rattle.std.specs.Cmp.Lexicographic.{pointwise}
use Rattle.compose_compare.specs.declared.Change.{Change}
use Rattle.compose_compare.specs.declared.Change.TheVariants.{Removed, Added}
use Rattle.compose_diff.specs.declared.row.TextPlace.{TextPlace}
use Rattle.compose_diff.specs.declared.row.DiffRow.{DiffRow}
use Rattle.compose_diff.specs.Line.{key_names}
use Rattle.compose_diff.specs.Order.{group}
use Rattle.compose_diff.specs.Causes.{gone_entry}

-- ---- what rows have in common

-- the keys by which rows are folded: the first two, or the first of two; none for a sequence of one
-- key
abbrev pub fold_keys : DiffRow → List (List ℕ)
fold_keys row = take (min (length row.keys.now - 1) 2) (key_names row)

abbrev pub can_fold : Change → Bool
can_fold Removed = true
can_fold Added = true
can_fold _ = false

-- what happens to all rows of a line, as its rank among the changes, and the source with which they
-- are gone, or the keys with which they begin
pub record Common : Type 0 where
  pub change : ℕ
  pub source : Option ℕ
  pub keys : List (List ℕ)

-- for a row that is removed with its source, the source; otherwise, if it can be folded, its first
-- keys
abbrev pub common_by : Option TextPlace → DiffRow → Option Common
common_by (Some entry) row = Some (record { change = group row.change; source = Some entry.source; keys = [] })
common_by None row = if can_fold row.change && nat_lt 1 (length row.keys.now) then Some (record { change = group row.change; source = None; keys = fold_keys row }) else None

-- the same, with the sources that are gone given
abbrev pub common : (ℕ → Bool) → DiffRow → Option Common
common gone row = common_by (gone_entry gone row) row

abbrev pub are_same : Common → Common → Bool
are_same a b = a.change == b.change && option_eq nat_eq a.source b.source && pointwise bytes_eq a.keys b.keys

-- the row has this in common with others
abbrev pub has : (ℕ → Bool) → Common → DiffRow → Bool
has gone what row = option_map_or (are_same what) (common gone row) false

-- ---- groups

-- two rows fold together if they have the same in common
abbrev pub folds_with : (ℕ → Bool) → DiffRow → DiffRow → Bool
folds_with gone row other = option_map_or (λ what. has gone what other) (common gone row) false

-- the rows with which no earlier row folds together
abbrev pub firsts : (ℕ → Bool) → List DiffRow → List DiffRow → List DiffRow
firsts gone earlier [] = []
firsts gone earlier (row ∷ rows) = if list_any (folds_with gone row) earlier then firsts gone (earlier ++ row ∷ []) rows else row ∷ firsts gone (earlier ++ row ∷ []) rows

-- all rows that fold together with a row, in order; a row that has nothing in common with others is
-- alone
abbrev pub group_of : (ℕ → Bool) → List DiffRow → DiffRow → List DiffRow
group_of gone rows row = option_map_or (λ what. filter (has gone what) rows) (common gone row) (row ∷ [])

-- for each row with which no earlier row folds together, all rows that do
abbrev pub groups : (ℕ → Bool) → List DiffRow → List (List DiffRow)
groups gone rows = map (group_of gone rows) (firsts gone [] rows)

-- the rows of all groups
abbrev pub all_of : List (List DiffRow) → List DiffRow
all_of them = flat_map (λ rows. rows) them

-- some of the rows, in their order, are all rows that fold together with one row; or they are a
-- single row, which folds together with none
abbrev pub IsGroup : (ℕ → Bool) → List DiffRow → List DiffRow → Type 0
IsGroup gone rows part = (row : DiffRow) × ((part ≡ filter (folds_with gone row) rows) ⊎ ((part ≡ row ∷ []) × ((other : DiffRow) → folds_with gone row other ≡ false)))
