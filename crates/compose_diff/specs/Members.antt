-- The rows of each group, by what they have in common.
use Rattle.std.specs.Prelude.{ℕ, Bool, if◌then◌else◌, List, [], ◌∷◌, ◌++◌, map, Option}
use Rattle.std.specs.Borrow.{Bor}
use Rattle.std.specs.Option.{option_map_or}
use Rattle.std.specs.declared.vec.Vec.{Vec}
use Rattle.std.specs.declared.alloc.Global.{Global}
use Rattle.indexmap.specs.IndexMap.{IndexMap, get_by}
use Rattle.compose_diff.specs.declared.row.DiffRow.{DiffRow}
use Rattle.compose_diff.specs.Groups.{Common, are_same, common, has}

-- a change, a source and keys, as they are looked up
abbrev pub Key : Type 0
Key = ℕ × Option ℕ × Bor (List (Bor (List ℕ)))

-- the value of such a key
abbrev pub view : Key → Common
view key = record { change = key.0; source = key.1; keys = map (λ name. name.now) key.2.now }

-- the rows that are listed under what they have in common
abbrev pub members_at : {S : Type 0} → IndexMap Key (Vec DiffRow Global) S → Common → List DiffRow
members_at groups what = option_map_or (λ rows. rows.items) (get_by (λ key. are_same what (view key)) groups) []

-- with one more row, if it has the other thing in common
abbrev pub onto : Common → Common → DiffRow → List DiffRow → List DiffRow
onto what other row rows = if are_same what other then rows ++ row ∷ [] else rows

-- none, if these have the other thing in common
abbrev pub without : Common → Common → List DiffRow → List DiffRow
without what other rows = if are_same what other then [] else rows

-- the rows that are listed under what a row has in common, or the row alone
abbrev pub group_in : {S : Type 0} → (ℕ → Bool) → IndexMap Key (Vec DiffRow Global) S → DiffRow → List DiffRow
group_in gone groups row = option_map_or (members_at groups) (common gone row) (row ∷ [])

-- none, if the row has this in common
abbrev pub after : (ℕ → Bool) → DiffRow → Common → List DiffRow → List DiffRow
after gone row what rows = if has gone what row then [] else rows
