-- The sequences of a table by the numbers of its leaves, and the lines that count for them.
use Rattle.std.proofs.Common.{◌≡◌, ℕ, ◌<◌, List, [], true, length, map, get_or, sym, ◌∙◌, ap, arith}
use Rattle.std.specs.Prelude.{Option, Some, None}
use Rattle.std.specs.Option.{option_map_or, option_and_then}
use Rattle.std.proofs.lemmas.Cmp.{nat_list_cmp_total}
use Rattle.std.proofs.lemmas.List.{length-map, get_or-map}
use Rattle.keysym_core.specs.Names.{KeysymNames}
use Rattle.compose_model.specs.Table.{Definition, is_sequence}
use Rattle.compose_model.specs.Nodes.{leaves}
use Rattle.compose_model.proofs.NodeLemmas.{found_at}
use Rattle.compose_model.proofs.Sorted.{rising_sorted}
use Rattle.compose_tree.specs.Targets.{leaf_number}
use Rattle.compose_tree.proofs.Steps.{leaf_means}
use Rattle.compose_walk.proofs.NodeNumbers.{index_is, any_at}
use Rattle.compose_places.specs.Counting.{WrittenLine, sequence_named, AreLines}

module _ (table : List Definition) where
  -- the number of a leaf's sequence is its own
  pub number_of_leaf : (i : ℕ) → i < length (leaves table) → leaf_number table (get_or (leaves table) i []) ≡ i
  number_of_leaf i h = index_is (leaves table) i (rising_sorted nat_list_cmp_total (map (λ (d : Definition). d.sequence) table)) h

  -- and the table has it
  pub leaf_there : (i : ℕ) → i < length (leaves table) → is_sequence table (get_or (leaves table) i []) ≡ true
  leaf_there i h = sym (leaf_means table (get_or (leaves table) i [])) ∙ any_at (leaves table) i h

  -- a sequence is the leaf with its number
  pub leaf_at_number : (s : List ℕ) → is_sequence table s ≡ true → get_or (leaves table) (leaf_number table s) [] ≡ s
  leaf_at_number s h = found_at s (leaves table) (leaf_means table s ∙ h)

  module _ (names : KeysymNames) (lines : List (Option WrittenLine)) (are : AreLines names table lines) where
    abbrev sequence_in : Option WrittenLine → Option (List ℕ)
    sequence_in o = option_and_then (λ (line : WrittenLine). sequence_named names line.keys) o

    pub as_many_lines : length lines ≡ length (leaves table)
    as_many_lines = sym (length-map lines sequence_in) ∙ ap (λ os. length os) are ∙ length-map (leaves table) (λ s. let o : Option (List ℕ) = Some s in o)

    -- the keys of the line that counts are the leaf's sequence
    pub keys_there : (i : ℕ) → i < length (leaves table)
        → sequence_named names (option_map_or (λ line. line.keys) (get_or lines i None) []) ≡ Some (get_or (leaves table) i [])
    keys_there i h = go (get_or lines i None) line
      where
        below : i < length lines
        below = omega (arith, as_many_lines, h)

        line : sequence_in (get_or lines i None) ≡ Some (get_or (leaves table) i [])
        line = sym (get_or-map sequence_in lines i None None below) ∙ ap (λ os. get_or os i None) are ∙ get_or-map (λ s. let o : Option (List ℕ) = Some s in o) (leaves table) i [] None h

        go : (o : Option WrittenLine) → sequence_in o ≡ Some (get_or (leaves table) i []) → sequence_named names (option_map_or (λ line. line.keys) o []) ≡ Some (get_or (leaves table) i [])
        go None e = cc
        go (Some l) e = e
