-- Sort keys of spans, which mostly rise with the sequences of the spans. Definitions for private
-- functions.
use Rattle.std.specs.Prelude.{◌≡◌, ℕ, ◌+◌, ◌-◌, ◌*◌, ◌<◌, min, Bool, List, length, map, slice_index, slice_index_or}
use Rattle.compose_model.specs.Table.{comes_before}
use Rattle.compose_read.specs.Rows.{sequence_at}
use Rattle.compose_read.specs.declared.rows.RowSpan.{RowSpan}

-- the sequence of a span comes before that of another
abbrev pub by_sequence : List ℕ → RowSpan → RowSpan → Bool
by_sequence keysyms p q = comes_before (sequence_at keysyms p) (sequence_at keysyms q)

-- the sort key of a keysym, below 2^15, which is never less than that of a lesser keysym: each
-- keysym below 8448, each from 65024 to 65535, and each Unicode keysym up to U+5CFF has its own
abbrev pub keysym_sort_key : ℕ → ℕ
keysym_sort_key keysym = min keysym 8448 + min (keysym - 65024) 512 + min (keysym - 16777216) 23807

-- the first three of these sort keys of keysyms, as the digits of a number in base 2^15, with 0 for
-- a missing one
unfoldable pub prefix_sort_key : List ℕ → ℕ
prefix_sort_key keysym_sort_keys = (slice_index keysym_sort_keys 0 * 32768 + slice_index keysym_sort_keys 1) * 32768 + slice_index keysym_sort_keys 2

-- the same for the sequence of a span
abbrev pub prefix_sort_key_at : List ℕ → RowSpan → ℕ
prefix_sort_key_at keysyms span = prefix_sort_key (map keysym_sort_key (sequence_at keysyms span))

-- the sort key of each span, in the same order: that of the first three keysyms of its sequence,
-- and its index in the 17 bits below that
pub record AreSortKeys (keysyms : List ℕ) (spans : List RowSpan) (sort_keys : List ℕ) : Type 0 where
  pub count : length sort_keys ≡ length spans
  pub fits : length spans < 131072
  pub each : (d : RowSpan) (index : ℕ) → index < length spans → slice_index sort_keys index ≡ prefix_sort_key_at keysyms (slice_index_or spans index d) * 131072 + index
