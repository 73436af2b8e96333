-- Rows in flat arrays: the keysyms of all rows one after another, their texts one after another,
-- and the position of those of each row. Definitions for private functions.
use Rattle.std.specs.Prelude.{ℕ, ◌+◌, ◌*◌, ◌≤◌, List, [], map, length, take, drop}
use Rattle.std.specs.List.{All}
use Rattle.std.specs.Str.{IsCharBoundary}
use Rattle.compose_model.specs.Table.{Definition}
use Rattle.compose_read.specs.Read.{max_definitions}
use Rattle.compose_read.specs.declared.rows.RowSpan.{RowSpan}

abbrev pub sequence_at : List ℕ → RowSpan → List ℕ
sequence_at keysyms p = take p.keysym_count (drop p.first_keysym keysyms)

-- the definition that a span refers to
abbrev pub definition_at : List ℕ → List ℕ → RowSpan → Definition
definition_at keysyms texts p = record { sequence = sequence_at keysyms p; text = take p.byte_count (drop p.first_byte texts) }

abbrev pub rows_of : List ℕ → List ℕ → List RowSpan → List Definition
rows_of keysyms texts spans = map (definition_at keysyms texts) spans

-- its keysyms are there, at most 32; its text is there, and begins and ends at a character boundary
pub record IsPlaced (keysyms texts : List ℕ) (p : RowSpan) : Type 0 where
  pub few : p.keysym_count ≤ 32
  pub keysyms_within : p.first_keysym + p.keysym_count ≤ length keysyms
  pub starts : IsCharBoundary texts p.first_byte
  pub ends : IsCharBoundary texts (p.first_byte + p.byte_count)

abbrev pub ArePlaced : List ℕ → List ℕ → List RowSpan → Type 0
ArePlaced keysyms texts spans = All (IsPlaced keysyms texts) spans

-- ---- definitions that are being read

-- the complete ones, and one after them
pub record DraftRows : Type 0 where
  pub table : List Definition
  pub row : Definition

-- a row's keysyms and its text end before these offsets
abbrev pub IsBefore : ℕ → ℕ → RowSpan → Type 0
IsBefore first_keysym first_byte p = (p.first_keysym + p.keysym_count ≤ first_keysym) × (p.first_byte + p.byte_count ≤ first_byte)

-- these offsets come after the keysyms and the texts of the rows, of which there are not too many,
-- and no further than rows of the greatest length reach
pub record ComesAfter (spans : List RowSpan) (first_keysym first_byte : ℕ) : Type 0 where
  pub few : length spans ≤ max_definitions
  pub keysyms : first_keysym ≤ 32 * length spans
  pub bytes : first_byte ≤ 255 * length spans
  pub each : All (IsBefore first_keysym first_byte) spans

-- a definition with nothing read yet
abbrev pub no_row : Definition
no_row = record { sequence = []; text = [] }

-- the same complete ones, and this one after them
abbrev pub with_row : DraftRows → Definition → DraftRows
with_row d row = record { table = d.table; row = row }

-- the last one has all keysyms and bytes from these offsets on
abbrev pub draft_rows : List ℕ → List ℕ → List RowSpan → ℕ → ℕ → DraftRows
draft_rows keysyms texts spans first_keysym first_byte = record { table = rows_of keysyms texts spans; row = record { sequence = drop first_keysym keysyms; text = drop first_byte texts } }
