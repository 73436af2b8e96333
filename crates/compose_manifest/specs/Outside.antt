-- Reports which files of a table lie outside of a tree of locales.
use Rattle.std.specs.Prelude.{ℕ, Bool, false, not, ◌&&◌, List, [], ◌∷◌, ◌++◌, drop, flat_map, Option, codes}
use Rattle.std.specs.List.{filter}
use Rattle.std.specs.Option.{option_map_or}
use Rattle.compose_shown.specs.Shown.{shown_text}
use Rattle.compose_find.specs.Found.{FoundSource}
use Rattle.compose_find.specs.Trees.{lies_below}

-- the path lies neither below the tree nor below the root, if one is given
abbrev pub is_outside : List ℕ → Option (List ℕ) → List ℕ → Bool
is_outside tree root path = not (lies_below tree path) && not (option_map_or (λ root. lies_below root path) root false)

-- the line for a source, with its newline (code 10)
abbrev pub note : List ℕ → FoundSource → List ℕ
note tree source = codes "note: " ++ (shown_text source.path ++ (codes " lies outside of " ++ (shown_text tree ++ 10 ∷ [])))

-- the lines for those of the sources that lie outside, in order
abbrev pub notes : List ℕ → Option (List ℕ) → List FoundSource → List ℕ
notes tree root sources = flat_map (note tree) (filter (λ source. is_outside tree root source.path) sources)

-- for all but the first, the root of the table, whose path comes from the user
abbrev pub outside_text : List ℕ → Option (List ℕ) → List FoundSource → List ℕ
outside_text tree root sources = notes tree root (drop 1 sources)
