-- Files of names, one after another (this project's profile).
use Rattle.std.specs.Prelude.{ℕ, nat_eq, max, if◌then◌else◌, List, [], ◌∷◌, ◌++◌, length}
use Rattle.std.specs.List.{ends_with}
use Rattle.compose_text.specs.Lines.{lines_of}

-- the lines of a file, the last one with its newline
abbrev pub ended : List ℕ → List ℕ
ended lines = if ends_with nat_eq lines (10 ∷ []) then lines else lines ++ 10 ∷ []

-- the number of lines that a file of names adds: one for an empty file too
abbrev pub line_count : List ℕ → ℕ
line_count bytes = max 1 (length (lines_of bytes))
