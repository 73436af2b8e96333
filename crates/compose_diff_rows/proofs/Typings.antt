-- The first of the leaves that give a text is the leaf of the first sequence that gives it.
use Rattle.std.proofs.Common.{◌≡◌, ℕ, ◌<◌, List, [], ◌∷◌, length, map, get_or, sym, ◌∙◌, ap, subst}
use Rattle.std.specs.Prelude.{Option, Some, None, slice_get}
use Rattle.std.specs.Option.{option_and_then}
use Rattle.std.specs.List.{All}
use Rattle.std.proofs.lemmas.List.Elements.{All-head}
use Rattle.std.proofs.lemmas.Option.{same_Some}
use Rattle.compose_model.specs.Table.{Definition}
use Rattle.compose_model.specs.Nodes.{leaves}
use Rattle.compose_tree.specs.declared.table.LeafId.{LeafId}
use Rattle.compose_lookup.specs.Lookup.{giving, shortest_first}
use Rattle.compose_lookup.specs.TextIndex.{IsLeaf}
use Rattle.compose_lookup.specs.TextIndex as lookup
use Rattle.compose_diff_rows.specs.Rows.{Written, sequence_in, first_typing}

-- it is one of the table's
pub first_below : (table : List Definition) (found : List LeafId) (leaf : LeafId) → All (IsLeaf table) found → slice_get found 0 ≡ Some leaf → leaf.0 < length (leaves table)
first_below table [] leaf all h = cc
first_below table (first ∷ found) leaf all h = subst (λ (l : LeafId). l.0 < length (leaves table)) (same_Some first leaf h) (All-head (IsLeaf table) first found all)

module _ (w : Written) (text : List ℕ) (found : List LeafId) (are : map (lookup.sequence_at w.table) found ≡ shortest_first (giving w.table text)) where
  first_of : (xs : List LeafId) → map (lookup.sequence_at w.table) xs ≡ shortest_first (giving w.table text) → slice_get (map (lookup.sequence_at w.table) xs) 0 ≡ first_typing w.table text
  first_of xs e = ap (λ (ss : List (List ℕ)). slice_get ss 0) e

  -- none if no leaf is found
  pub no_first : slice_get found 0 ≡ None → None ≡ option_and_then (sequence_in w) (first_typing w.table text)
  no_first h = go found are h
    where
      go : (xs : List LeafId) → map (lookup.sequence_at w.table) xs ≡ shortest_first (giving w.table text) → slice_get xs 0 ≡ None → None ≡ option_and_then (sequence_in w) (first_typing w.table text)
      go [] e none = ap (option_and_then (sequence_in w)) (first_of [] e)
      go (x ∷ xs) e none = cc

  -- otherwise that of the first leaf
  pub first_is : (leaf : LeafId) → slice_get found 0 ≡ Some leaf → sequence_in w (get_or (leaves w.table) leaf.0 []) ≡ option_and_then (sequence_in w) (first_typing w.table text)
  first_is leaf h = go found are h
    where
      go : (xs : List LeafId) → map (lookup.sequence_at w.table) xs ≡ shortest_first (giving w.table text) → slice_get xs 0 ≡ Some leaf
          → sequence_in w (get_or (leaves w.table) leaf.0 []) ≡ option_and_then (sequence_in w) (first_typing w.table text)
      go [] e some = cc
      go (x ∷ xs) e some =
          ap (λ (l : LeafId). sequence_in w (get_or (leaves w.table) l.0 [])) (sym (same_Some x leaf some))
          ∙ ap (option_and_then (sequence_in w)) (first_of (x ∷ xs) e)
