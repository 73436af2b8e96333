-- A repertoire's text: ranges of keys, and then characters.
use Rattle.std.specs.Prelude.{ℕ, Bool, true, not, ◌+◌, ◌&&◌, ◌==◌, nat_eq, nat_lt, nat_le, if◌then◌else◌, List, [], ◌∷◌, ◌++◌, length, drop, filter, map, Option, Some, None, Result, Ok, Err, bytes_eq, codes, IsTrue, ◌≤◌}
use Rattle.std.specs.Option.{option_map}
use Rattle.std.specs.Str.{is_utf8}
use Rattle.std.specs.Str.Parse.{digits_value}
use Rattle.std.specs.List.{list_all, starts_with, before_first}
use Rattle.compose_text.specs.Bytes.{is_blank}
use Rattle.compose_text.specs.Numbers.{is_hexadecimal}
use Rattle.keysym_core.specs.Names.{number_form}
use Rattle.compose_text.specs.Lines.{divide, lines_of}
use Rattle.compose_model.specs.Certificate.{Repertoire, keys_rise}
use Rattle.compose_cert.specs.Spelling.{is_character}
use Rattle.compose_cert.specs.declared.entry.LineEntry.{LineEntry}
use Rattle.compose_cert.specs.declared.entry.LineEntry.TheVariants.{Nothing, Keys, Character}
use Rattle.compose_cert.specs.declared.RepertoireFault.{RepertoireFault}
use Rattle.compose_cert.specs.declared.RepertoireFault.TheVariants.{BadLine, NotRising, TooMany}

abbrev pub max_entries : ℕ
max_entries = 65536

-- ---- a line

-- tabs and carriage returns count as spaces (code 32)
abbrev pub plain_blank : ℕ → ℕ
plain_blank b = if is_blank b then 32 else b

-- the bytes before a comment (code 35)
abbrev pub before_comment : List ℕ → List ℕ
before_comment line = before_first (λ b. b == 35) line

-- the words, with one or more blanks between them
abbrev pub words_in : List ℕ → List (List ℕ)
words_in bytes = filter (λ word. nat_lt 0 (length word)) (divide 32 (map plain_blank bytes))

-- the words before a comment
abbrev pub words_of : List ℕ → List (List ℕ)
words_of line = words_in (before_comment line)

-- `U+` and four to six hexadecimal digits
abbrev pub character_form : List ℕ → Option ℕ
character_form word =
    if starts_with nat_eq word (codes "U+") && is_hexadecimal 4 6 (drop 2 word) && is_character (digits_value 16 (drop 2 word)) then Some (digits_value 16 (drop 2 word)) else None

abbrev pub range_entry : Option ℕ → Option ℕ → Option LineEntry
range_entry (Some first) (Some last) = if nat_le first last then Some (Keys first last) else None
range_entry (Some first) None = None
range_entry None last = None

-- no word; `keys` and two numbers; or a character. None for a line of another form
abbrev pub entry_of : List (List ℕ) → Option LineEntry
entry_of [] = Some Nothing
entry_of (word ∷ []) = option_map (λ c. Character c) (character_form word)
entry_of (word ∷ first ∷ last ∷ []) = if bytes_eq word (codes "keys") then range_entry (number_form first) (number_form last) else None
entry_of _ = None

-- the last key of a range isn't below its first
abbrev pub IsOrdered : LineEntry → Type 0
IsOrdered (Keys first last) = first ≤ last
IsOrdered _ = Unit {0}

-- ---- all lines

-- the repertoire with the content of line n; ranges increase and come before the characters, which
-- increase as well
abbrev pub with_entry : ℕ → Option LineEntry → Repertoire → Result Repertoire RepertoireFault
with_entry n None r = Err (BadLine n)
with_entry n (Some Nothing) r = Ok r
with_entry n (Some (Keys first last)) r =
    if nat_lt 0 (length r.characters) then Err (BadLine n) else
    if not (list_all (λ k. nat_lt k.1 first) r.keys) then Err (NotRising n) else
    if nat_le max_entries (length r.keys) then Err TooMany else Ok (record r { keys = r.keys ++ (first, last) ∷ [] })
with_entry n (Some (Character c)) r =
    if not (list_all (λ d. nat_lt d c) r.characters) then Err (NotRising n) else
    if nat_le max_entries (length r.characters) then Err TooMany else Ok (record r { characters = r.characters ++ c ∷ [] })

abbrev pub line_entry : List ℕ → Option LineEntry
line_entry line = if is_utf8 line then entry_of (words_of line) else None

-- the repertoire with the content of these lines, the first of which has the number n
abbrev pub lines_on : ℕ → List (List ℕ) → Result Repertoire RepertoireFault → Result Repertoire RepertoireFault
lines_on n lines (Err fault) = Err fault
lines_on n [] (Ok r) = Ok r
lines_on n (line ∷ lines) (Ok r) = lines_on (1 + n) lines (with_entry n (line_entry line) r)

-- the repertoire, or the fault of the first faulty line
abbrev pub repertoire_of : List ℕ → Result Repertoire RepertoireFault
repertoire_of bytes = lines_on 1 (lines_of bytes) (Ok (record { characters = []; keys = [] }))

-- ---- the properties of a repertoire

-- no range is empty, and each begins above the end of the one before
abbrev pub ranges_rise : List (ℕ × ℕ) → Bool
ranges_rise [] = true
ranges_rise (r ∷ []) = nat_le r.0 r.1
ranges_rise (r ∷ s ∷ ranges) = nat_le r.0 r.1 && nat_lt r.1 s.0 && ranges_rise (s ∷ ranges)

-- the characters are strictly increasing, and there are at most 65,536 of them and of the ranges
pub record IsRepertoire (r : Repertoire) : Type 0 where
  pub rise : IsTrue (keys_rise r.characters)
  pub few : length r.characters ≤ max_entries
  pub few_keys : length r.keys ≤ max_entries
  -- no range is empty, and each begins above the end of the one before
  pub ranges_rise : IsTrue (ranges_rise r.keys)
