-- A header of names (the lines of keysymdef.h; which comments assign a character is this project's
-- profile).
use Rattle.std.specs.Prelude.{◌≡◌, ℕ, ◌+◌, Bool, false, ◌&&◌, ◌||◌, not, ◌==◌, nat_le, nat_lt, if◌then◌else◌, List, [], ◌∷◌, ◌++◌, length, take, drop, Option, Some, None, is_some, Result, Ok, Err, bytes_eq, codes}
use Rattle.std.specs.List.{position_or_len}
use Rattle.std.specs.Option.{option_map, option_map_or}
use Rattle.std.specs.Str.{is_utf8}
use Rattle.compose_text.specs.Bytes.{is_blank, is_name_byte}
use Rattle.compose_text.specs.Numbers.{is_hexadecimal_digit, is_hexadecimal, hexadecimal}
use Rattle.keysym_core.specs.Keysym.{is_keysym}
use Rattle.compose_text.specs.Lines.{lines_of}
use Rattle.keysym_core.specs.Names.{KeysymNames, row_value, value, is_control, is_surrogate}
use Rattle.keysym_core.specs.GivenCharacters.{with_character}
use Rattle.keysym_core.specs.Core.{core_names}
use Rattle.keysym_core.specs.declared.fault.NameFault.{NameFault}
use Rattle.keysym_core.specs.declared.fault.NameFault.TheVariants.{NotUtf8, BadLine, ValueTooLarge, NameConflict, TooManyNames, NoMemory}

-- ---- a line, read from left to right (its grammar is the relation in HeaderLine; law_header_line states that the two
-- agree)

-- the number of leading bytes that pass the test
abbrev pub run_length : (ℕ → Bool) → List ℕ → ℕ
run_length p bytes = position_or_len (λ b. not (p b)) bytes

-- the leading bytes that pass the test, and the bytes after them
abbrev pub run : (ℕ → Bool) → List ℕ → List ℕ
run p bytes = take (run_length p bytes) bytes

abbrev pub after_run : (ℕ → Bool) → List ℕ → List ℕ
after_run p bytes = drop (run_length p bytes) bytes

abbrev pub begins_with : List ℕ → List ℕ → Bool
begins_with start bytes = bytes_eq (take (length start) bytes) start

-- the definition in a line: a name, its value, and the character in its comment
pub record HeaderEntry : Type 0 where
  pub name : List ℕ
  pub value : ℕ
  pub character : Option ℕ

-- a number of a character other than a control character
abbrev pub is_graphic : ℕ → Bool
is_graphic c = not (is_control c || is_surrogate c || nat_lt 0x10ffff c)

abbrev pub graphic_character : ℕ → Option ℕ
graphic_character c = if is_graphic c then Some c else None

-- four to six digits after `U+`, as many as there are
abbrev pub numbered_character : List ℕ → Option ℕ
numbered_character bytes =
    let digits = run is_hexadecimal_digit (drop 2 bytes) in
    if begins_with (codes "U+") bytes && is_hexadecimal 4 6 digits then graphic_character (hexadecimal digits) else None

-- without one opening parenthesis (code 40)
abbrev pub unparenthesized : List ℕ → List ℕ
unparenthesized [] = []
unparenthesized (b ∷ bytes) = if b == 40 then bytes else b ∷ bytes

-- the character at the beginning of a comment
abbrev pub noted_character : List ℕ → Option ℕ
noted_character text = numbered_character (unparenthesized (after_run is_blank text))

-- the text of the comment at the end of a line, which is empty without a comment
abbrev pub comment_text : List ℕ → Option (List ℕ)
comment_text rest = if length rest == 0 then Some [] else if begins_with (codes "/*") rest then Some (drop 2 rest) else None

-- the value and what follows it: `0x`, one to eight digits, blanks, and perhaps a comment
abbrev pub valued_entry : List ℕ → List ℕ → Option HeaderEntry
valued_entry name number =
    let digits = run is_hexadecimal_digit (drop 2 number) in
    let rest = after_run is_hexadecimal_digit (drop 2 number) in
    if begins_with (codes "0x") number && is_hexadecimal 1 8 digits
    then option_map (λ text. record { name = name; value = hexadecimal digits; character = noted_character text }) (comment_text (after_run is_blank rest))
    else None

-- the definition after `#define XK_`: a name, blanks, and its value
abbrev pub entry_of : List ℕ → Option HeaderEntry
entry_of bytes =
    let blanks = after_run is_name_byte bytes in
    if run_length is_name_byte bytes == 0 || run_length is_blank blanks == 0 then None else valued_entry (run is_name_byte bytes) (after_run is_blank blanks)

abbrev pub define : List ℕ
define = codes "#define XK_"

-- the definition in a whole line: the entry to which DefinesEntry of HeaderLine relates it, and
-- none if there is no such entry
abbrev pub defined_entry : List ℕ → Option HeaderEntry
defined_entry line = if begins_with define line then entry_of (drop (length define) line) else None

-- ---- the names in the lines

abbrev pub max_names : ℕ
max_names = 16384

-- the name already looks up as another keysym
abbrev pub is_conflict : KeysymNames → List ℕ → ℕ → Bool
is_conflict names name v = option_map_or (λ known. not (known == v)) (value names name) false

-- the names, and a name that the line n defines
abbrev pub with_name : KeysymNames → ℕ → List ℕ → ℕ → Result KeysymNames NameFault
with_name names n name v =
    if is_conflict names name v then Err (NameConflict n) else
    if is_some (row_value names.names name) then Ok names else
    if nat_le max_names (length names.names) then Err TooManyNames else
    Ok (record names { names = names.names ++ record { name = name; value = v } ∷ [] })

-- and the character that the line assigns
abbrev pub with_noted : Result KeysymNames NameFault → ℕ → Option ℕ → Result KeysymNames NameFault
with_noted (Err fault) v noted = Err fault
with_noted (Ok names) v None = Ok names
with_noted (Ok names) v (Some c) = Ok (record names { characters = with_character names.characters v c })

-- the names, and the definition in the line n
abbrev pub with_entry : KeysymNames → ℕ → Option HeaderEntry → Result KeysymNames NameFault
with_entry names n None = Err (BadLine n)
with_entry names n (Some entry) = if is_keysym entry.value then with_noted (with_name names n entry.name entry.value) entry.value entry.character else Err (ValueTooLarge n)

-- the names, and the definition in the text of the line n, which is skipped if it does not define
-- the name of a keysym
abbrev pub with_text : KeysymNames → ℕ → List ℕ → Result KeysymNames NameFault
with_text names n line = if begins_with define line then with_entry names n (defined_entry line) else Ok names

-- the names, and the definition in the line n
abbrev pub with_line : KeysymNames → ℕ → List ℕ → Result KeysymNames NameFault
with_line names n line = if is_utf8 line then with_text names n line else Err (NotUtf8 n)

-- the lines one after another, counted from n, up to the first fault
abbrev pub with_lines : Result KeysymNames NameFault → ℕ → List (List ℕ) → Result KeysymNames NameFault
with_lines (Err fault) n lines = Err fault
with_lines (Ok names) n [] = Ok names
with_lines (Ok names) n (line ∷ lines) = with_lines (with_line names n line) (n + 1) lines

-- the core names and those of a header, or the fault of its first faulty line
abbrev pub names_of : List ℕ → Result KeysymNames NameFault
names_of header = with_lines (Ok core_names) 1 (lines_of header)

-- ---- the result of a function, unless memory runs out

abbrev pub NamesReturns : Result KeysymNames NameFault → Result KeysymNames NameFault → Type 0
NamesReturns (Ok names) expected = expected ≡ Ok names
NamesReturns (Err NoMemory) expected = Unit {0}
NamesReturns (Err fault) expected = expected ≡ Err fault

-- the same for a function that changes the names
abbrev pub ChangeReturns : {A : Type 0} → Result A NameFault → KeysymNames → Result KeysymNames NameFault → Type 0
ChangeReturns (Ok x) after expected = expected ≡ Ok after
ChangeReturns (Err NoMemory) after expected = Unit {0}
ChangeReturns (Err fault) after expected = expected ≡ Err fault
