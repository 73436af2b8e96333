-- The intended changes: lines in the form in which rows are printed, with or without places (this
-- project's profile).
use Rattle.std.specs.Prelude.{◌≡◌, ℕ, Bool, true, not, ◌+◌, ◌&&◌, ◌==◌, nat_lt, if◌then◌else◌, List, [], ◌∷◌, ◌++◌, length, take, drop, map, filter, flat_map, Result, Ok, Err, bytes_eq, codes}
use Rattle.std.specs.List.{find, list_any}
use Rattle.std.specs.Option.{option_map_or}
use Rattle.std.specs.declared.vec.Vec.{Vec}
use Rattle.std.specs.declared.alloc.Global.{Global}
use Rattle.compose_text.specs.Lines.{lines_of}
use Rattle.compose_compare.specs.declared.Change.{Change}
use Rattle.compose_compare.specs.declared.Change.TheVariants.{Changed, Waiting, Removed, NewStart}
use Rattle.compose_compare.specs.Change.{is_harmless}
use Rattle.compose_diff.specs.declared.row.DiffRow.{DiffRow}
use Rattle.compose_diff.specs.declared.accepted.AcceptFault.{AcceptFault}
use Rattle.compose_diff.specs.declared.accepted.AcceptFault.TheVariants.{Stale, BadLine, NoMemory}
use Rattle.compose_diff.specs.Line.{change_word, key_names, row_text}

-- ---- the lines

-- a line, and its number from 1
pub record Line : Type 0 where
  pub number : ℕ
  pub text : List ℕ

-- nothing, or a comment, which begins with `#` (code 35)
abbrev pub is_skipped : List ℕ → Bool
is_skipped [] = true
is_skipped (b ∷ rest) = b == 35

-- the lines that are not skipped, numbered from n
abbrev pub list_lines_from : ℕ → List (List ℕ) → List Line
list_lines_from n [] = []
list_lines_from n (line ∷ lines) = if is_skipped line then list_lines_from (1 + n) lines else record { number = n; text = line } ∷ list_lines_from (1 + n) lines

-- the text begins with these bytes
abbrev pub begins_with : List ℕ → List ℕ → Bool
begins_with text prefix = bytes_eq (take (length prefix) text) prefix

-- the text begins with the word of this change, a colon, a blank and a bracket
abbrev pub begins_as : List ℕ → Change → Bool
begins_as text change = begins_with text (change_word change) && begins_with (drop (length (change_word change)) text) (codes ": <")

-- the changes that are not harmless, which can be accepted
abbrev pub acceptable : List Change
acceptable = Changed ∷ Waiting ∷ Removed ∷ NewStart ∷ []

-- it begins like the line of a change that can be accepted
abbrev pub is_in_form : Line → Bool
is_in_form line = list_any (begins_as line.text) acceptable

-- the lines of a file, or the first of them that is not in the required form
abbrev pub accepted_of : List ℕ → Result (List Line) AcceptFault
accepted_of bytes =
    let lines = list_lines_from 1 (lines_of bytes) in
    option_map_or (λ (line : Line). Err (BadLine line.number)) (find (λ line. not (is_in_form line)) lines) (Ok lines)

-- ---- what they accept

-- the end, or a blank (code 32), after which the places come
abbrev pub is_end : List ℕ → Bool
is_end [] = true
is_end (b ∷ rest) = b == 32

-- the line is this text, with or without places after it
abbrev pub matches_text : List ℕ → Line → Bool
matches_text text line = begins_with line.text text && is_end (drop (length text) line.text)

-- the change is not harmless, and one of the lines has it with the same keys and texts
abbrev pub is_accepted : List Line → DiffRow → Bool
is_accepted lines row = not (is_harmless row.change) && list_any (matches_text (row_text row)) lines

-- the line matches none of the texts
abbrev pub is_stale : List (List ℕ) → Line → Bool
is_stale texts line = not (list_any (λ text. matches_text text line) texts)

-- the rows that are not accepted, in order; or the first line that matches none of the rows
abbrev pub left_of : List Line → List DiffRow → Result (List DiffRow) AcceptFault
left_of lines rows = option_map_or (λ (line : Line). Err (Stale line.number)) (find (is_stale (map row_text rows)) lines) (Ok (filter (λ row. not (is_accepted lines row)) rows))

-- the given result, unless memory ran out
abbrev pub Returns : {A : Type 0} → Result A AcceptFault → Result A AcceptFault → Type 0
Returns (Ok value) expected = expected ≡ Ok value
Returns (Err NoMemory) expected = Unit {0}
Returns (Err fault) expected = expected ≡ Err fault

-- the same for a list of rows
abbrev pub Leaves : Result (Vec DiffRow Global) AcceptFault → Result (List DiffRow) AcceptFault → Type 0
Leaves (Ok left) expected = expected ≡ Ok left.items
Leaves (Err NoMemory) expected = Unit {0}
Leaves (Err fault) expected = expected ≡ Err fault

-- ---- the list to accept

-- the rows that are not harmless, a line without places for each
abbrev pub accept_lines : List DiffRow → List ℕ
accept_lines rows = flat_map (λ row. row_text row ++ 10 ∷ []) (filter (λ row. not (is_harmless row.change)) rows)

-- ---- the written list, read again

-- the sequence has a key
abbrev pub has_key : DiffRow → Bool
has_key row = nat_lt 0 (length (key_names row))

-- the bytes are a file of accepted lines, none of which is stale, and the rows that are left are
-- the harmless ones
pub record AcceptsAll (bytes : List ℕ) (rows : List DiffRow) : Type 0 where
  pub lines : List Line
  pub read : accepted_of bytes ≡ Ok lines
  pub left : left_of lines rows ≡ Ok (filter (λ row. is_harmless row.change) rows)
