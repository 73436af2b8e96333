-- Where a key stands in a table that is given as data: a hash without collisions.
use Rattle.std.specs.Prelude.{ℕ, ◌+◌, ◌*◌, ◌^◌, ◌/◌, ◌%◌, List, []}
use Rattle.std.specs.List.{fold, slice_index_or}

abbrev pub spread : ℕ
spread = 0xff51afd7ed558ccd

-- a hash with a number mixed in, in 64 bits
abbrev pub mixed : ℕ → ℕ → ℕ
mixed hash number = (((hash + number) % 2 ^ 64) * spread) % 2 ^ 64

abbrev pub name_hash : List ℕ → ℕ
name_hash bytes = fold mixed 0 bytes

abbrev pub keysym_hash : ℕ → ℕ
keysym_hash keysym = mixed 0 keysym

-- the number at an index of rows that have the same width
abbrev pub number_at : ℕ → List (List ℕ) → ℕ → ℕ
number_at width rows index = slice_index_or (slice_index_or rows (index / width) []) (index % width) 0

-- the place of a hash: twelve bits of it, shifted by the shift of its group, which is its ten
-- highest bits
abbrev pub place_of : List (List ℕ) → ℕ → ℕ
place_of shifts hash = (hash / 2 ^ 42 + number_at 32 shifts (hash / 2 ^ 54)) % 4096

-- the index at the place of a hash
abbrev pub index_of : List (List ℕ) → List (List ℕ) → ℕ → ℕ
index_of shifts indexes hash = number_at 64 indexes (place_of shifts hash)
