-- The sequences of a table that give a text, and the order in which people want them (this
-- project's profile).
use Rattle.std.specs.Prelude.{ℕ, Bool, false, nat_eq, List, length, filter, flat_map}
use Rattle.std.specs.Option.{option_map_or}
use Rattle.std.specs.List.{range_with_len}
use Rattle.compose_model.specs.Table.{Definition, same, text_at, is_proper_prefix}
use Rattle.compose_model.specs.Nodes.{leaves}

-- the table gives this text for the sequence s
abbrev pub gives : List Definition → List ℕ → List ℕ → Bool
gives table text s = option_map_or (same text) (text_at table s) false

-- the sequences of a table that give the text, in order
abbrev pub giving : List Definition → List ℕ → List (List ℕ)
giving table text = filter (gives table text) (leaves table)

-- the numbers of keys that a sequence may have: one to 32
unfoldable pub key_counts : List ℕ
key_counts = range_with_len 1 32

-- those of one key, then those of two, and so on up to 32; those of the same length as they were
abbrev pub shortest_first : List (List ℕ) → List (List ℕ)
shortest_first sequences = flat_map (λ n. filter (λ s. nat_eq (length s) n) sequences) key_counts

-- the number of sequences of a table that go on from these keys
abbrev pub count_after : List Definition → List ℕ → ℕ
count_after table keys = length (filter (is_proper_prefix keys) (leaves table))
