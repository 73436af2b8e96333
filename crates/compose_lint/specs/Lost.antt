-- Lines that libX11 or libxkbcommon skips because of how they are written, whatever the names in
-- them mean. Each class is one row of the table in docs/READERS.md.
use Rattle.std.specs.Prelude.{ℕ, Bool, true, false, ◌+◌, ◌&&◌, ◌||◌, ◌==◌, nat_eq, nat_lt, nat_le, if◌then◌else◌, List, [], ◌∷◌, ◌++◌, length, drop, flat_map, bytes_eq, codes}
use Rattle.std.specs.List.{list_all, list_any, starts_with}
use Rattle.std.specs.Char.{is_ascii_digit}
use Rattle.std.specs.Option.{option_map_or}
use Rattle.std.specs.Result.{result_ok}
use Rattle.compose_lex.specs.Escape.{text_of}
use Rattle.compose_read.specs.Lines.{Source, source_lines}
use Rattle.compose_lint.specs.FileLines.{has_mark, is_unended, has_content, ends_in_string, ends_in_backslash, has_return, has_return_in_include, has_spaced_name}
use Rattle.compose_lint.specs.Productions.{Production, Written, production_of}
use Rattle.compose_lint.specs.Readers.{has_digit_name}

-- ---- a line alone

-- one to eight zeros (code 48)
abbrev pub are_zeros : List ℕ → Bool
are_zeros digits = nat_lt 0 (length digits) && nat_le (length digits) 8 && list_all (λ d. d == 48) digits

-- the keysym name is the number 0: `0x` (codes 48 and 120) and one to eight zeros
abbrev pub is_zero : List ℕ → Bool
is_zero name = starts_with nat_eq name (48 ∷ 120 ∷ []) && are_zeros (drop 2 name)

-- the name is a name of the keysym 0
abbrev pub is_no_symbol : List ℕ → Bool
is_no_symbol name = bytes_eq name (codes "NoSymbol") || is_zero name

-- the text of the string is 255 bytes long, the maximum
abbrev pub has_longest_string : Written → Bool
has_longest_string p = option_map_or (λ raw. option_map_or (λ text. nat_le 255 (length text)) (result_ok (text_of raw)) false) p.raw false

-- libX11 or libxkbcommon skips the line, whose definition is this one
abbrev pub is_skipped_production : List ℕ → Production → Bool
is_skipped_production line p =
    has_return line p.written || has_spaced_name line || nat_le 10 (length p.events) || list_any is_no_symbol p.events || has_digit_name p.written || has_longest_string p.written

-- libX11 or libxkbcommon skips the line, wherever it is
abbrev pub is_skipped : List ℕ → Bool
is_skipped line = has_return_in_include line || option_map_or (is_skipped_production line) (production_of line) false

-- ---- the lines of a file

-- libX11 or libxkbcommon skips the line; `marked`: a byte order mark precedes it, `cut`: it is the
-- last line and has no newline, `before`: the line before it
abbrev pub is_lost : Bool → Bool → List ℕ → List ℕ → Bool
is_lost marked cut before line = ((marked || ends_in_backslash before) && has_content line) || (cut && ends_in_string line) || is_skipped line

-- the lost lines among these, which are the last ones of a file
abbrev pub lost_after : Bool → Bool → List ℕ → List (List ℕ) → List (List ℕ)
lost_after marked unended before [] = []
lost_after marked unended before (line ∷ lines) =
    (if is_lost marked (unended && length lines == 0) before line then line ∷ [] else []) ++ lost_after false unended line lines

-- the lost lines of a file with these bytes
abbrev pub lost_lines : List ℕ → List (List ℕ)
lost_lines bytes = lost_after (has_mark bytes) (is_unended bytes) [] (source_lines bytes)

-- the number of lost lines in these sources, each line counted once
abbrev pub lost_count : List Source → ℕ
lost_count sources = length (flat_map (λ (s : Source). lost_lines s.bytes) sources)

-- ---- signs: found without splitting a line into tokens

-- two consecutive bytes that a skipped line may have: a carriage return (code 13) after any byte; a
-- blank, a `0` or an `N` after a `<`; a `>` after a blank; or a digit after a blank, a quote or a
-- colon. Any byte up to 32 counts as a blank before these, any byte up to 34 as a blank or a quote,
-- and any byte up to 48 as a blank or a `0` after a `<`
abbrev pub is_sign : ℕ → ℕ → Bool
is_sign first second =
    second == 13
    || first == 60 && (nat_le second 48 || second == 78)
    || nat_le first 32 && second == 62
    || (nat_le first 34 || first == 58) && is_ascii_digit second

-- this byte and the bytes after it have two such consecutive bytes
abbrev pub has_sign_after : ℕ → List ℕ → Bool
has_sign_after first [] = false
has_sign_after first (second ∷ line) = is_sign first second || has_sign_after second line

-- the number of `<` in the line
abbrev pub openings : List ℕ → ℕ
openings [] = 0
openings (b ∷ line) = if b == 60 then 1 + openings line else openings line

-- the line may be skipped for its own bytes; if this is false, `is_skipped` is false
abbrev pub may_be_skipped : List ℕ → Bool
may_be_skipped line = nat_le 255 (length line) || (has_sign_after 58 line || nat_le 10 (openings line))
