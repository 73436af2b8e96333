-- The notes of `diff` on lines that other readers skip (docs/READERS.md).
use Rattle.std.specs.Prelude.{ℕ, ◌==◌, if◌then◌else◌, List, [], ◌++◌, string_bytes, codes}
use Rattle.std.specs.Fmt.{decimal}
use Rattle.compose_shown.specs.Shown.{shown_text}
use Rattle.compose_lint.specs.Lost.{lost_count}
use Rattle.compose_input.specs.declared.tables.TableFiles.{TableFiles}

-- the note on the table at this path, with its newline; nothing if no line is lost
abbrev pub count_note : List ℕ → ℕ → List ℕ
count_note path count =
    if count == 0 then [] else
    codes "note: libX11 or libxkbcommon loses lines of " ++ (shown_text path ++ (codes " or of its includes, " ++ (decimal count ++ codes " in all: `composecheck lint` tells which\n")))

abbrev pub lost_note : TableFiles → List ℕ
lost_note table = count_note (string_bytes table.path) (lost_count table.sources)

-- the notes on an old and on a new table
abbrev pub lost_notes : TableFiles → TableFiles → List ℕ
lost_notes old new = lost_note old ++ lost_note new
