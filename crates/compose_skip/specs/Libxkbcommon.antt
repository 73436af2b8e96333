-- What libxkbcommon reads in a line by itself, and the same as a line of this program's grammar
-- (libxkbcommon 1.7, src/compose/parser.c and src/keysym.c).
use Rattle.std.specs.Prelude.{ℕ, Bool, true, false, not, ◌||◌, ◌&&◌, ◌==◌, nat_eq, nat_lt, if◌then◌else◌, List, [], ◌∷◌, ◌++◌, length, drop, map, flat_map, Option, Some, None, is_some, unwrap_or, codes}
use Rattle.std.specs.Fmt.{digits}
use Rattle.std.specs.List.{list_all, starts_with}
use Rattle.std.specs.Option.{option_map_or, option_and_then}
use Rattle.compose_text.specs.Numbers.{is_hexadecimal, hexadecimal}
use Rattle.keysym_core.specs.Keysym.{is_ignored}
use Rattle.keysym_core.specs.Names.{KeysymNames, character_of, value, text}
use Rattle.keysym_core.specs.Printed.{at_least_four}
use Rattle.compose_model.specs.Table.{Definition}
use Rattle.compose_lex.specs.Escape.{quote}
use Rattle.compose_xkbcommon.specs.Grammar.{Parts, parts_of}
use Rattle.compose_xkbcommon.specs.Text.{typed, is_typed}

-- ---- names

-- `U` (code 85) and one to eight digits
abbrev pub is_character_name : List ℕ → Bool
is_character_name [] = false
is_character_name (u ∷ ds) = u == 85 && is_hexadecimal 1 8 ds

-- the other spelling of a name: `U226` is `U0226`, and `XF86_Back` is `XF86Back`
abbrev pub other_name : List ℕ → List ℕ
other_name name =
    if is_character_name name then 85 ∷ at_least_four (digits 16 true (hexadecimal (drop 1 name))) else
    if starts_with nat_eq name (codes "XF86_") then codes "XF86" ++ drop 5 name else name

-- the name itself if it has a keysym, else its other spelling
abbrev pub strict_name : KeysymNames → List ℕ → List ℕ
strict_name names name = if is_some (value names name) then name else other_name name

abbrev pub keysym_named : KeysymNames → List ℕ → Option ℕ
keysym_named names name = value names (strict_name names name)

-- a keysym other than 0, which is none, and than those that a compose state ignores
abbrev pub is_key : KeysymNames → List ℕ → Bool
is_key names name = option_map_or (λ k. nat_lt 0 k && not (is_ignored k)) (keysym_named names name) false

abbrev pub is_result : KeysymNames → List ℕ → Bool
is_result names name = option_map_or (λ k. nat_lt 0 k) (keysym_named names name) false

-- ---- a line

-- the name of VoidSymbol, as which an empty text is written
abbrev pub void : List ℕ
void = codes "0xffffff"

-- the keysym of that name has no character by these names
abbrev pub is_void : KeysymNames → Bool
is_void names = option_map_or (λ k. not (is_some (character_of names k))) (value names void) false

abbrev pub is_string : KeysymNames → List ℕ → Bool
is_string names raw = is_typed (typed raw) && (nat_lt 0 (length (typed raw)) || is_void names)

-- each name has a keysym, and the string a text
abbrev pub are_known : KeysymNames → Parts → Bool
are_known names p = list_all (is_key names) p.keys && option_map_or (is_result names) p.name true && option_map_or (is_string names) p.string true

-- the text of the string, or of the result keysym if there is no string
abbrev pub parts_text : KeysymNames → Parts → List ℕ
parts_text names p = option_map_or typed p.string (option_map_or (text names) (option_and_then (keysym_named names) p.name) [])

abbrev pub parts_definition : KeysymNames → Parts → Definition
parts_definition names p = record { sequence = map (λ n. unwrap_or (keysym_named names n) 0) p.keys; text = parts_text names p }

-- what libxkbcommon reads in the line, if this program can have such a definition
abbrev pub read_by_libxkbcommon : KeysymNames → List ℕ → Option Definition
read_by_libxkbcommon names line = option_and_then (λ p. if are_known names p then Some (parts_definition names p) else None) (parts_of line)

-- ---- the same line in this program's grammar

-- a name between `<` and `>`, and a blank after it
abbrev pub key_text : List ℕ → List ℕ
key_text key = codes "<" ++ (key ++ codes "> ")

abbrev pub keys_text : List (List ℕ) → List ℕ
keys_text keys = flat_map key_text keys

abbrev pub string_written : List ℕ → List ℕ
string_written bytes = if length bytes == 0 then void else quote bytes

abbrev pub result_written : KeysymNames → Parts → List ℕ
result_written names p = option_map_or (λ raw. string_written (typed raw)) p.string (option_map_or (strict_name names) p.name [])

abbrev pub line_written : KeysymNames → Parts → List ℕ
line_written names p = keys_text (map (strict_name names) p.keys) ++ (codes ": " ++ result_written names p)

-- the line with the definition that libxkbcommon reads in a line
abbrev pub rewritten : KeysymNames → List ℕ → Option (List ℕ)
rewritten names line = option_and_then (λ p. if are_known names p then Some (line_written names p) else None) (parts_of line)
