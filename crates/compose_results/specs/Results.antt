-- The result keysym of a sequence (Compose(5), "FILE DESCRIPTION": a line gives a string, the name
-- of a keysym, or both; xkb_compose_state_get_one_sym).
use Rattle.std.specs.Prelude.{◌≡◌, ◌<◌, ℕ, if◌then◌else◌, List, [], ◌∷◌, length, map, get_or, Option, Some, None, unwrap_or, Result, Ok}
use Rattle.std.specs.Option.{option_and_then}
use Rattle.std.specs.Str.{is_utf8}
use Rattle.keysym_core.specs.Names.{KeysymNames, value}
use Rattle.compose_model.specs.Table.{Definition}
use Rattle.compose_model.specs.Nodes.{leaves}
use Rattle.compose_lex.specs.Line.{Reading, production}
use Rattle.compose_lex.specs.Fault.{reading_of}
use Rattle.compose_lex.specs.declared.LexFault.{LexFault}
use Rattle.compose_read.specs.Lines.{Source}
use Rattle.compose_messages.specs.Characters.{IsKeyOfText}
use Rattle.compose_places.specs.Counting.{WrittenLine, counting_line, read_lines}
use Rattle.compose_places.specs.Events.{line_at}
use Rattle.compose_places.specs.declared.places.DefinitionPlace.{DefinitionPlace}
use Rattle.compose_tree.specs.Targets.{leaf_text}

-- ---- what a line names

abbrev pub name_of : Result Reading LexFault → Option (List ℕ)
name_of (Ok (production events raw name)) = name
name_of _ = None

-- the name of the result keysym that is written on the line, if it is a definition and has one
abbrev pub result_name : List ℕ → Option (List ℕ)
result_name bytes = if is_utf8 bytes then name_of (reading_of bytes) else None

-- the keysym that the line at this place names
abbrev pub named_at : KeysymNames → List Source → DefinitionPlace → Option ℕ
named_at names sources place = option_and_then (value names) (option_and_then result_name (line_at sources place))

-- ---- the result keysym

-- the keysym that is named; if none is, the first keysym of the text's one character; otherwise 0
-- (XKB_KEY_NoSymbol)
abbrev pub IsResult : KeysymNames → Option ℕ → List ℕ → ℕ → Type 0
IsResult names (Some named) text k = k ≡ named
IsResult names None text k = (first : Option ℕ) × IsKeyOfText names text first × (k ≡ unwrap_or first 0)

-- the keysym that a line names, if there is a line and it names one
abbrev pub named_by : KeysymNames → List Source → Option WrittenLine → Option ℕ
named_by names sources line = option_and_then (λ l. named_at names sources l.place) line

-- one for each of the table's first `count` leaves, in their order; these are the lines that count
-- for the leaves
pub record AreFor (names : KeysymNames) (sources : List Source) (lines : List (Option WrittenLine)) (table : List Definition) (count : ℕ) (results : List ℕ) : Type 0 where
  pub as_many : length results ≡ count
  pub are : (i : ℕ) → i < length results → IsResult names (named_by names sources (get_or lines i None)) (unwrap_or (leaf_text table i) []) (get_or results i 0)

-- one for each leaf
abbrev pub AreResults : KeysymNames → List Source → List (Option WrittenLine) → List Definition → List ℕ → Type 0
AreResults names sources lines table results = AreFor names sources lines table (length (leaves table)) results

-- the lines that count for the leaves of a table that is read from the root
abbrev pub counting_lines : KeysymNames → List Source → List ℕ → List Definition → List (Option WrittenLine)
counting_lines names sources root table = map (counting_line names (read_lines sources root)) (leaves table)

-- the result keysyms of a table whose root is the first source
abbrev pub AreFirstResults : KeysymNames → List Source → List Definition → List ℕ → Type 0
AreFirstResults names [] table results = ⊥
AreFirstResults names (s ∷ sources) table results = AreResults names (s ∷ sources) (counting_lines names (s ∷ sources) s.name table) table results
