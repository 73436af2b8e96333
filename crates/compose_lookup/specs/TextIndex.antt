-- An index of a table's leaves by their texts.
use Rattle.std.specs.Prelude.{◌≡◌, ℕ, Bool, ◌<◌, nat_eq, nat_lt, if◌then◌else◌, List, [], length, map, filter, flat_map, get_or, unwrap_or, bytes_eq}
use Rattle.std.specs.List.{All, list_any, range_with_len}
use Rattle.std.specs.List.Sorted.{IsSortedByKey}
use Rattle.std.specs.Ordering.{nat_cmp}
use Rattle.std.specs.Cmp.Lexicographic.{slice_cmp}
use Rattle.compose_model.specs.Table.{Definition, same}
use Rattle.compose_model.specs.Nodes.{leaves}
use Rattle.compose_tree.specs.Targets.{leaf_text}
use Rattle.compose_tree.specs.declared.table.LeafId.{LeafId}
use Rattle.compose_lookup.specs.Lookup.{giving, shortest_first, key_counts}

-- the sequence of a leaf
abbrev pub sequence_at : List Definition → LeafId → List ℕ
sequence_at table leaf = get_or (leaves table) leaf.0 []

-- the leaf is one of the table's
abbrev pub IsLeaf : List Definition → LeafId → Type 0
IsLeaf table leaf = leaf.0 < length (leaves table)

-- the text of a leaf; nothing for a leaf that the table doesn't have
abbrev pub text_of : List Definition → LeafId → List ℕ
text_of table leaf = if nat_lt leaf.0 (length (leaves table)) then unwrap_or (leaf_text table leaf.0) [] else []

abbrev pub has_text : List Definition → List ℕ → LeafId → Bool
has_text table text leaf = same text (text_of table leaf)

-- the text is one of these
abbrev pub is_among : List (List ℕ) → List ℕ → Bool
is_among texts text = list_any (λ t. bytes_eq text t) texts

-- leaves in the order of their texts; those with this text are the sequences that give it, shortest
-- first
pub record IsTextIndex (table : List Definition) (text : List ℕ) (index : List LeafId) : Type 0 where
  pub in_table : All (IsLeaf table) index
  pub rise : IsSortedByKey (text_of table) (slice_cmp nat_cmp) index
  pub sequences : map (sequence_at table) (filter (has_text table text) index) ≡ shortest_first (giving table text)

-- ---- definitions for private functions

abbrev pub leaf_id : ℕ → LeafId
leaf_id n = record { 0 = n }

-- this number of leaves, by their numbers
abbrev pub leaf_ids : ℕ → List LeafId
leaf_ids n = map leaf_id (range_with_len 0 n)

-- the leaves of a table that give one of these texts, by their numbers
abbrev pub giving_one : List Definition → List (List ℕ) → List LeafId
giving_one table texts = filter (λ leaf. is_among texts (text_of table leaf)) (leaf_ids (length (leaves table)))

-- those of these leaves that have sequences of n keys, if these are the lengths of all
abbrev pub of_length : List ℕ → List LeafId → ℕ → List LeafId
of_length lengths these n = filter (λ leaf. nat_eq (get_or lengths leaf.0 0) n) these

abbrev pub by_length : List ℕ → List LeafId → List LeafId
by_length lengths these = flat_map (of_length lengths these) key_counts
