-- The parts of a production (Compose(5), "FILE DESCRIPTION"), and its definition.
use Rattle.std.specs.Prelude.{ℕ, Bool, ◌==◌, ◌||◌, if◌then◌else◌, List, [], ◌∷◌, length, drop, position, Option, Some, None, Result, Ok, unwrap_or}
use Rattle.std.specs.Option.{option_map, option_and_then}
use Rattle.std.specs.Result.{result_ok}
use Rattle.std.specs.Str.{is_utf8, trim}
use Rattle.keysym_core.specs.Keysym.{is_ignored}
use Rattle.keysym_core.specs.Names.{KeysymNames, value, text}
use Rattle.compose_model.specs.Table.{Definition}
use Rattle.compose_lex.specs.Line.{Reading, production}
use Rattle.compose_lex.specs.Fault.{reading_of}
use Rattle.compose_lex.specs.Escape.{text_of}
use Rattle.compose_lex.specs.declared.LexFault.{LexFault}

-- what is between the quotes of the string, and the name of the result keysym
pub record Written : Type 0 where
  pub raw : Option (List ℕ)
  pub name : Option (List ℕ)

-- the names of the keys, and the string and the result name
pub record Production : Type 0 where
  pub events : List (List ℕ)
  pub written : Written

abbrev pub parts_of : Result Reading LexFault → Option Production
parts_of (Ok (production events raw name)) = Some (record { events = events; written = record { raw = raw; name = name } })
parts_of _ = None

-- the production on the line, if the line is UTF-8 and a production
abbrev pub production_of : List ℕ → Option Production
production_of line = if is_utf8 line then parts_of (reading_of line) else None

-- its string and result name
abbrev pub written_of : List ℕ → Option Written
written_of line = option_map (λ p. p.written) (production_of line)

-- ---- the parts of a line

-- a quote (code 34) or a `#` (code 35)
abbrev pub begins_string_or_comment : ℕ → Bool
begins_string_or_comment b = b == 34 || b == 35

-- the number of bytes before the string or the comment
abbrev pub head_len : List ℕ → ℕ
head_len line = unwrap_or (position begins_string_or_comment line) (length line)

-- what follows the string with this raw text
abbrev pub after_string : List ℕ → List ℕ → List ℕ
after_string line raw = drop (length raw) (drop 2 (drop (head_len line) line))

-- the bytes as a text without white space at its ends, if they are UTF-8
abbrev pub trimmed : List ℕ → Option (List ℕ)
trimmed bytes = if is_utf8 bytes then Some (trim bytes) else None

-- what follows the first `#` (code 35) of these bytes, if there is one
abbrev pub comment_in : List ℕ → Option (List ℕ)
comment_in bytes = option_and_then (λ i. trimmed (drop 1 (drop i bytes))) (position (λ b. b == 35) bytes)

-- the comment after the string of a line with this string and result name
abbrev pub comment_beside : List ℕ → Option Written → Option (List ℕ)
comment_beside line written = option_and_then (λ p. option_and_then (λ raw. comment_in (after_string line raw)) p.raw) written

-- the comment of a line with a string
abbrev pub comment_of : List ℕ → Option (List ℕ)
comment_of line = comment_beside line (written_of line)

-- ---- definitions for private functions

-- a production with these keys
abbrev pub production_with : List (List ℕ) → Written → Production
production_with events w = record { events = events; written = w }

-- the keysym of a key, if it is known and not ignored
abbrev pub fed_keysym : KeysymNames → List ℕ → Option ℕ
fed_keysym names event = option_and_then (λ k. if is_ignored k then None else Some k) (value names event)

-- the keysyms of the keys, if each has one
abbrev pub fed_sequence : KeysymNames → List (List ℕ) → Option (List ℕ)
fed_sequence names [] = Some []
fed_sequence names (event ∷ events) = option_and_then (λ k. option_map (λ s. k ∷ s) (fed_sequence names events)) (fed_keysym names event)

-- the text of the string, if the string is valid
abbrev pub string_given : Option (List ℕ) → Option (Option (List ℕ))
string_given None = Some None
string_given (Some raw) = option_map (λ t. Some t) (result_ok (text_of raw))

-- the text of the result keysym, if its name is known; the empty text if there is no name
abbrev pub name_given : KeysymNames → Option (List ℕ) → Option (List ℕ)
name_given names None = Some []
name_given names (Some name) = option_map (text names) (value names name)

-- the text of the string, or otherwise of the result keysym
abbrev pub text_given : KeysymNames → Option (List ℕ) → Option (List ℕ) → Option (List ℕ)
text_given names raw name = option_and_then (λ string. option_map (λ other. unwrap_or string other) (name_given names name)) (string_given raw)

abbrev pub definition_given : KeysymNames → Production → Option Definition
definition_given names p = option_and_then (λ s. option_map (λ t. record { sequence = s; text = t }) (text_given names p.written.raw p.written.name)) (fed_sequence names p.events)
