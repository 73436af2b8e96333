-- What becomes of the definitions of a table (libxkbcommon, src/compose/parser.c). An entry is a
-- definition that the table takes, or nothing.
use Rattle.std.specs.Prelude.{ℕ, ◌+◌, Bool, false, ◌&&◌, nat_lt, if◌then◌else◌, bytes_eq, List, [], ◌∷◌, Option, Some, None, unwrap_or}
use Rattle.std.specs.Option.{option_map_or, option_or}
use Rattle.compose_model.specs.Table.{is_proper_prefix}
use Rattle.compose_readers.specs.Definitions.{Definition}
use Rattle.compose_readers.specs.declared.settling.Fate.{Fate}
use Rattle.compose_readers.specs.declared.settling.Fate.TheVariants.{Taken, Overridden, Behind, Full}

abbrev pub Entry : Type 0
Entry = Option Definition

-- ---- entries

-- its sequence is longer, and begins with this one
abbrev pub extends : List ℕ → Entry → Bool
extends keys e = option_map_or (λ d. is_proper_prefix keys d.keys) e false

-- it has this sequence
abbrev pub is_for : List ℕ → Entry → Bool
is_for keys e = option_map_or (λ d. bytes_eq d.keys keys) e false

-- it has this sequence, and a string
abbrev pub is_string_for : List ℕ → Entry → Bool
is_string_for keys e = option_map_or (λ d. d.has_string && bytes_eq d.keys keys) e false

-- ---- the entry that counts

-- the index of the first of these entries that is so; that of the first of them is `index`
abbrev pub first_from : (Entry → Bool) → ℕ → List Entry → Option ℕ
first_from is index [] = None
first_from is index (e ∷ es) = if is e then Some index else first_from is (index + 1) es

-- the index of the last one
abbrev pub last_from : (Entry → Bool) → ℕ → List Entry → Option ℕ
last_from is index [] = None
last_from is index (e ∷ es) = option_or (last_from is (index + 1) es) (if is e then Some index else None)

-- of a sequence with which longer ones begin, the first longer one; else the last entry with a
-- string, or the last one
abbrev pub counting : List Entry → List ℕ → Option ℕ
counting es keys = option_or (first_from (extends keys) 0 es) (option_or (last_from (is_string_for keys) 0 es) (last_from (is_for keys) 0 es))

-- ---- fates

-- of the entry with an index, by the index of the one that counts
abbrev pub fate_by : ℕ → ℕ → Fate
fate_by at counting = if nat_lt at counting then Overridden counting else if nat_lt counting at then Behind counting else Taken

abbrev pub fate_of : List Entry → ℕ → Entry → Fate
fate_of es at None = Full
fate_of es at (Some d) = fate_by at (unwrap_or (counting es d.keys) at)

abbrev pub fates_from : List Entry → ℕ → List Entry → List Fate
fates_from all at [] = []
fates_from all at (e ∷ es) = fate_of all at e ∷ fates_from all (at + 1) es

abbrev pub fates : List Entry → List Fate
fates es = fates_from es 0 es
