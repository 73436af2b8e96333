-- The comparison of two tables: what happens to each sequence of the old one, and to each of the
-- new one that the old one lacks.
use Rattle.std.specs.Prelude.{Bool, true, ◌&&◌, List, Option}
use Rattle.std.specs.List.{list_all}
use Rattle.std.specs.Option.{option_map_or}
use Rattle.compose_compare.specs.declared.Change.{Change}
use Rattle.compose_compare.specs.Change.{is_harmless}

-- both lists are in the order of sequences; a sequence of the new table that the old one has too
-- has none
pub record Reported : Type 0 where
  pub of_old : List Change
  pub of_new : List (Option Change)

-- all of it is harmless
abbrev pub is_all_harmless : Reported → Bool
is_all_harmless reported = list_all is_harmless reported.of_old && list_all (λ c. option_map_or is_harmless c true) reported.of_new
