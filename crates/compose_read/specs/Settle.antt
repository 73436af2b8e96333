-- The settled sequences of a table: in rising order, each with its last definition, and none a
-- prefix of another.
use Rattle.std.specs.Prelude.{ℕ, Bool, true, not, ◌&&◌, List, [], ◌∷◌, map, Option, Some, None, Result, Ok, Err, unwrap_or, IsTrue}
use Rattle.std.specs.List.{find}
use Rattle.compose_model.specs.Table.{Definition, is_proper_prefix, is_sequence, is_extended, text_at, longest, comes_before, is_table, is_prefix_free}
use Rattle.compose_model.specs.Nodes.{leaves}
use Rattle.compose_model.specs.declared.Rule.{Rule}
use Rattle.compose_model.specs.declared.Rule.TheVariants.{Refuse, Longest}

-- each sequence once, in rising order, with the text of its last definition
abbrev pub row : List Definition → List ℕ → Definition
row table s = record { sequence = s; text = unwrap_or (text_at table s) [] }

abbrev pub in_order : List Definition → List Definition
in_order table = map (row table) (leaves table)

-- a sequence that is a prefix of another one
pub record Overlap : Type 0 where
  pub short : List ℕ
  pub long : List ℕ

-- and its least extension
abbrev pub with_extension : List Definition → Option (List ℕ) → Option Overlap
with_extension table None = None
with_extension table (Some short) = Some (record { short = short; long = unwrap_or (find (is_proper_prefix short) (leaves table)) [] })

-- the least sequence that is a proper prefix of another, and its least extension
abbrev pub overlap : List Definition → Option Overlap
overlap table = with_extension table (find (is_extended table) (leaves table))

abbrev pub or_overlap : Option Overlap → List Definition → Result (List Definition) Overlap
or_overlap None table = Ok table
or_overlap (Some o) table = Err o

-- the rows of the table by the rule, or the overlap because of which `Refuse` rejects it
abbrev pub settled : Rule → List Definition → Result (List Definition) Overlap
settled Refuse table = or_overlap (overlap table) (in_order table)
settled Longest table = Ok (in_order (longest table))

-- ---- the properties of a list of rows

-- each sequence comes before the next one
abbrev pub sequences_rise : List Definition → Bool
sequences_rise [] = true
sequences_rise (d ∷ []) = true
sequences_rise (d ∷ e ∷ table) = comes_before d.sequence e.sequence && sequences_rise (e ∷ table)

-- rows that a table can be built of: each is a definition, their sequences rise, and none is a
-- prefix of another
pub record IsSettled (table : List Definition) : Type 0 where
  pub definitions : IsTrue (is_table table)
  pub rise : IsTrue (sequences_rise table)
  pub prefix_free : IsTrue (is_prefix_free table)

-- ---- the properties of a reported overlap

-- two sequences of the table: the least one that is a prefix of another one, and the least one that
-- it is a prefix of
pub record IsLeastOverlap (table : List Definition) (o : Overlap) : Type 0 where
  pub short : IsTrue (is_sequence table o.short)
  pub long : IsTrue (is_sequence table o.long)
  pub is_prefix : IsTrue (is_proper_prefix o.short o.long)
  pub least : (s t : List ℕ) → IsTrue (is_sequence table s) → IsTrue (is_sequence table t) → IsTrue (is_proper_prefix s t) → IsTrue (not (comes_before s o.short))
  pub nearest : (t : List ℕ) → IsTrue (is_sequence table t) → IsTrue (is_proper_prefix o.short t) → IsTrue (not (comes_before t o.long))
