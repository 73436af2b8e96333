-- The lines that `-v` adds (this project's profile): the path of a file, a position in it, and a
-- message.
use Rattle.std.specs.Prelude.{ℕ, Bool, true, false, ◌-◌, nat_le, if◌then◌else◌, List, [], ◌∷◌, ◌++◌, get_or, Option, Some, None, codes}
use Rattle.compose_shown.specs.Shown.{shown_text}
use Rattle.compose_messages.specs.Messages.{position_text}
use Rattle.compose_messages.specs.declared.position.Position.{Position}
use Rattle.compose_input.specs.declared.names.Header.{Header}

-- a line: the path, the position if there is one, and the message (code 10 ends it)
abbrev pub line : List ℕ → Option Position → List ℕ → List ℕ
line path position sentence = codes "composecheck: " ++ shown_text path ++ position_text position ++ codes ": " ++ sentence ++ 10 ∷ []

-- a line that concerns no file
abbrev pub remark : List ℕ → List ℕ
remark sentence = codes "composecheck: " ++ sentence ++ 10 ∷ []

-- the beginning of a line
abbrev pub whole_line : ℕ → Option Position
whole_line n = Some (record { line = n; column = 1 })

abbrev pub is_empty : {X : Type 0} → List X → Bool
is_empty [] = true
is_empty (x ∷ xs) = false

-- the path of the file of the source with this index
abbrev pub path_of : List (List ℕ) → ℕ → List ℕ
path_of paths source = get_or paths source []

-- the file that has this line of all files, whose lines are numbered from 1 through all of them,
-- and its number in that file
abbrev pub header_line : List Header → ℕ → Option (Header × ℕ)
header_line [] n = None
header_line (h ∷ hs) n = if nat_le n h.lines then Some (h, n) else header_line hs (n - h.lines)
