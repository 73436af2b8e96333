-- Lines that other readers of Compose files skip because of how the file is written: each class is
-- one line of docs/READERS.md.
use Rattle.std.specs.Prelude.{ℕ, Bool, false, not, ◌-◌, ◌==◌, ◌&&◌, ◌||◌, nat_eq, nat_le, is_some, List, [], ◌∷◌, length, take, drop, take_while, reverse, slice_get}
use Rattle.std.specs.List.{list_any, starts_with, zip}
use Rattle.std.specs.Option.{option_map_or}
use Rattle.compose_text.specs.Bytes.{is_blank}
use Rattle.compose_read.specs.Visits.{raw_include}
use Rattle.compose_lint.specs.Productions.{Written, production_of, written_of}
pub use Rattle.compose_lint.specs.Productions.{begins_string_or_comment, head_len}
use Rattle.compose_lint.specs.Lines.{LintLine}

-- ---- the first and the last line of a file

-- the line is a definition or an include
abbrev pub has_content : List ℕ → Bool
has_content line = is_some (production_of line) || is_some (raw_include line)

-- the bytes begin with a UTF-8 byte order mark
abbrev pub has_mark : List ℕ → Bool
has_mark bytes = starts_with nat_eq bytes (0xef ∷ 0xbb ∷ 0xbf ∷ [])

-- the first line, after a byte order mark: libX11 and libxkbcommon skip it
abbrev pub is_after_mark : List ℕ → LintLine → Bool
is_after_mark bytes l = l.line == 1 && has_mark bytes && has_content l.bytes

-- the bytes end without a newline (code 10)
abbrev pub is_unended : List ℕ → Bool
is_unended bytes = not (starts_with nat_eq (reverse bytes) (10 ∷ []))

-- the line is a definition without a result name, or an include
abbrev pub ends_in_string : List ℕ → Bool
ends_in_string line = option_map_or (λ p. not (is_some p.name)) (written_of line) false || is_some (raw_include line)

-- the last line, without a newline: libxkbcommon skips it, unless it ends in a result name
abbrev pub is_without_newline : List ℕ → ℕ → LintLine → Bool
is_without_newline bytes lines l = l.line == lines && is_unended bytes && ends_in_string l.bytes

-- ---- the line before

-- the bytes end in a backslash (code 92)
abbrev pub ends_in_backslash : List ℕ → Bool
ends_in_backslash line = starts_with nat_eq (reverse line) (92 ∷ [])

-- the line before this one in its file ends in a backslash
abbrev pub follows_backslash : List LintLine → LintLine → Bool
follows_backslash lines l = nat_le 2 l.line && option_map_or (λ m. ends_in_backslash m.bytes) (slice_get lines (l.line - 2)) false

-- libX11 joins the line to the comment on the line before
abbrev pub is_joined : List LintLine → LintLine → Bool
is_joined lines l = follows_backslash lines l && has_content l.bytes

-- ---- blanks

-- the bytes between the string and the comment
abbrev pub tail : List ℕ → List ℕ → List ℕ
tail line raw = take_while (λ b. not (b == 35)) (drop (length raw) (drop 2 (drop (head_len line) line)))

-- a carriage return (code 13) outside of the string and the comment: libX11 skips the line
abbrev pub has_return : List ℕ → Written → Bool
has_return line p = list_any (λ b. b == 13) (take (head_len line) line) || option_map_or (λ raw. list_any (λ b. b == 13) (tail line raw)) p.raw false

-- a carriage return before the string of an include: libX11 skips the line
abbrev pub has_return_in_include : List ℕ → Bool
has_return_in_include line = is_some (raw_include line) && list_any (λ b. b == 13) (take (head_len line) line)

-- a blank after `<` (code 60) or before `>` (code 62)
abbrev pub is_spaced : ℕ × ℕ → Bool
is_spaced p = (p.0 == 60 && is_blank p.1) || (is_blank p.0 && p.1 == 62)

-- a blank next to a key name: libxkbcommon skips the line
abbrev pub has_spaced_name : List ℕ → Bool
has_spaced_name line = list_any is_spaced (zip (take (head_len line) line) (drop 1 (take (head_len line) line)))

-- the same, for private functions: in `first` and then the bytes of the line
abbrev pub has_spaced_name_after : ℕ → List ℕ → Bool
has_spaced_name_after before [] = false
has_spaced_name_after before (b ∷ line) = not (begins_string_or_comment b) && (is_spaced (before, b) || has_spaced_name_after b line)
