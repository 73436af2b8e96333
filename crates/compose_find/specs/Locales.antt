-- The files `compose.dir` and `locale.alias` in the folder of a system's locales. Each line has two
-- words.
use Rattle.std.specs.Prelude.{ℕ, Bool, not, ◌&&◌, ◌||◌, ◌==◌, if◌then◌else◌, List, [], ◌∷◌, length, Option, Some, None, unwrap_or, bytes_eq}
use Rattle.std.specs.List.{filter_map, find}
use Rattle.std.specs.Option.{option_map, option_map_or}
use Rattle.std.specs.Str.{is_utf8}
use Rattle.compose_text.specs.Bytes.{is_blank, begins, leading, behind}
use Rattle.compose_text.specs.Lines.{lines_of}
use Rattle.compose_find.specs.Expand.{in_folder}

-- any byte but a blank
abbrev pub is_word_byte : ℕ → Bool
is_word_byte b = not (is_blank b)

-- any byte but a blank or a colon (code 58), which ends the left word
abbrev pub is_left_byte : ℕ → Bool
is_left_byte b = is_word_byte b && not (b == 58)

abbrev pub skip_blanks : List ℕ → List ℕ
skip_blanks bytes = behind is_blank bytes

abbrev pub past_colon : List ℕ → List ℕ
past_colon [] = []
past_colon (b ∷ bytes) = if b == 58 then bytes else b ∷ bytes

abbrev pub left_word : List ℕ → List ℕ
left_word line = leading is_left_byte (skip_blanks line)

-- after the left word there may be a colon, and then blanks
abbrev pub right_word : List ℕ → List ℕ
right_word line = leading is_word_byte (skip_blanks (past_colon (behind is_left_byte (skip_blanks line))))

-- the two words of a line, `LEFT: RIGHT` or `LEFT RIGHT`; the rest of the line is ignored. A
-- comment (it begins with code 35) has none
abbrev pub pair_of : List ℕ → Option (List ℕ × List ℕ)
pair_of line =
    if length (left_word line) == 0 || length (right_word line) == 0 || begins (λ b. b == 35) (left_word line) then None else Some (left_word line, right_word line)

abbrev pub pairs : List ℕ → List (List ℕ × List ℕ)
pairs bytes = filter_map pair_of (lines_of bytes)

-- the left word of the first line whose right word is the locale
abbrev pub compose_dir_entry : List ℕ → List ℕ → Option (List ℕ)
compose_dir_entry bytes locale = option_map (λ pair. pair.0) (find (λ pair. bytes_eq pair.1 locale) (pairs bytes))

-- the right word of the first line whose left word is the alias
abbrev pub locale_alias : List ℕ → List ℕ → Option (List ℕ)
locale_alias bytes alias = option_map (λ pair. pair.1) (find (λ pair. bytes_eq pair.0 alias) (pairs bytes))

-- the locale of which this one is an alias, or else the locale itself
abbrev pub alias_target : List ℕ → List ℕ → List ℕ
alias_target aliases locale = unwrap_or (locale_alias aliases locale) locale

-- the path of an entry, in the folder of these files, if the entry is UTF-8
abbrev pub entry_path : List ℕ → List ℕ → Option (List ℕ)
entry_path folder entry = if is_utf8 entry then Some (in_folder folder entry) else None

-- the path of the table of a locale
abbrev pub locale_file : List ℕ → List ℕ → List ℕ → List ℕ → Option (List ℕ)
locale_file folder compose_dir aliases locale =
    option_map_or (entry_path folder) (compose_dir_entry compose_dir (alias_target aliases locale)) None
