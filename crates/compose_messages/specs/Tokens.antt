-- What a line has at a fault: a name, or a token in place of the expected one.
use Rattle.std.specs.Prelude.{ℕ, Bool, ◌+◌, ◌==◌, ◌||◌, if◌then◌else◌, List, [], ◌∷◌, length, take, drop, Option, Some, None, Result, Ok, get_or, codes, bytes_eq, nat_eq}
use Rattle.std.specs.Option.{unwrap_or}
use Rattle.std.specs.List.{list_any, position, prefix_len, starts_with}
use Rattle.compose_text.specs.Bytes.{is_blank, is_name_byte, begins}
use Rattle.compose_lex.specs.Line.{Reading, include, production}
use Rattle.compose_lex.specs.Fault.{reading_of}
use Rattle.compose_lex.specs.declared.LexFault.{LexFault}
use Rattle.compose_messages.specs.Places.{begins_character, text_or_nothing}

-- ---- a name

-- the name of the event with this index, or of the result keysym; for an include the raw text
abbrev pub name_in : ℕ → Result Reading LexFault → List ℕ
name_in index (Ok (production events raw name)) = get_or events index (unwrap_or name [])
name_in index (Ok (include raw)) = raw
name_in index reading = []

abbrev pub named : List ℕ → ℕ → List ℕ
named line index = name_in index (reading_of (text_or_nothing line))

-- ---- what is expected

-- the last byte that is not a blank, or else this one
abbrev pub last_solid : Option ℕ → List ℕ → Option ℕ
last_solid last [] = last
last_solid last (b ∷ bytes) = last_solid (if is_blank b then last else Some b) bytes

-- after a name or the word `include`: if a colon (code 58) is before it, the name is that of a
-- result; if a `<` (code 60) is, that of an event
abbrev pub expected_after_name : List ℕ → List ℕ
expected_after_name before =
    if list_any (λ b. b == 58) before then codes "the end of the line" else
    if list_any (λ b. b == 60) before then codes "\">\"" else codes "a string"

-- after a string: in a production, which begins with `<`, the name of a keysym may follow too
abbrev pub begins_production : List ℕ → Bool
begins_production before = starts_with nat_eq (drop (prefix_len is_blank before) before) (codes "<")

abbrev pub expected_after_string : List ℕ → List ℕ
expected_after_string before = if begins_production before then codes "the name of a keysym or the end of the line" else codes "the end of the line"

-- after the token that ends with this byte: `<`, `>`, `:`, a quote (codes 60, 62, 58 and 34), or a
-- byte of a name
abbrev pub expected_after_token : List ℕ → Option ℕ → List ℕ
expected_after_token before None = codes "\"<\" or the word include"
expected_after_token before (Some b) =
    if b == 60 then codes "the name of a keysym" else
    if b == 62 then codes "\":\" or \"<\"" else
    if b == 58 then codes "a string or the name of a keysym" else
    if b == 34 then expected_after_string before else expected_after_name before

-- what may follow these bytes of a line
abbrev pub expected_after : List ℕ → List ℕ
expected_after before = expected_after_token before (last_solid None before)

-- ---- what is found

-- the number of bytes of the name at the start, or otherwise of the first character
abbrev pub token_len : List ℕ → ℕ
token_len rest = if begins is_name_byte rest then prefix_len is_name_byte rest else 1 + unwrap_or (position begins_character (drop 1 rest)) (length (drop 1 rest))

abbrev pub first_token : List ℕ → List ℕ
first_token rest = take (token_len rest) rest

-- the token at this offset, if it is UTF-8; nothing at the end
abbrev pub found_at : List ℕ → ℕ → List ℕ
found_at line at = text_or_nothing (first_token (drop at line))

-- a word with which a list of modifiers begins in Compose(5)
abbrev pub is_modifier : List ℕ → Bool
is_modifier word =
    bytes_eq word (codes "!") || bytes_eq word (codes "~") || bytes_eq word (codes "None") || bytes_eq word (codes "Ctrl") || bytes_eq word (codes "Lock") ||
    bytes_eq word (codes "Caps") || bytes_eq word (codes "Shift") || bytes_eq word (codes "Alt") || bytes_eq word (codes "Meta")
