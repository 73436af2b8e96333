-- Findings as JSON (RFC 8259): an object in a line for each, and one with their counts (this
-- project's format).
use Rattle.std.specs.Prelude.{ℕ, ◌-◌, List, ◌++◌, length, filter, flat_map, Option, Some, None, bytes_eq, codes}
use Rattle.std.specs.Fmt.{decimal}
use Rattle.compose_diff.specs.Json.{json_string}
use Rattle.compose_lint.specs.Rows.{Row}
use Rattle.compose_lint.specs.Report.{kind_word, path_of, sentence_of, column_of, reader_word}
use Rattle.compose_lint.specs.declared.finding.FindingKind.{FindingKind}
use Rattle.compose_lint.specs.declared.finding.FindingKind.TheVariants.{Overridden, Repeated, Prefix, Alike, Redundant, Reader}
use Rattle.compose_lint.specs.declared.finding.LinePlace.{LinePlace}
use Rattle.compose_lint.specs.declared.reader.Reader.{Reader as ReaderName}

-- the place of the other line that a kind names
abbrev pub kind_other : ℕ → FindingKind → Option LinePlace
kind_other source (Overridden line) = Some (record { source = source; line = line })
kind_other source (Repeated line) = Some (record { source = source; line = line })
kind_other source (Prefix place) = Some place
kind_other source (Alike place) = Some place
kind_other source (Redundant place) = Some place
kind_other source kind = None

abbrev pub other_of : Row → Option LinePlace
other_of row = kind_other row.finding.source row.finding.kind

-- a file and a line
abbrev pub json_place : List (List ℕ) → LinePlace → List ℕ
json_place paths place = codes "\"file\":" ++ (json_string (path_of paths place.source) ++ (codes ",\"line\":" ++ decimal place.line))

abbrev pub json_other : List (List ℕ) → Option LinePlace → List ℕ
json_other paths None = codes ",\"other\":null"
json_other paths (Some place) = codes ",\"other\":{" ++ (json_place paths place ++ codes "}")

-- the reader that a kind names
abbrev pub reader_of : FindingKind → Option ReaderName
reader_of (Reader reader class) = Some reader
reader_of kind = None

abbrev pub json_reader : Option ReaderName → List ℕ
json_reader None = codes ",\"reader\":null"
json_reader (Some reader) = codes ",\"reader\":\"" ++ (reader_word reader ++ codes "\"")

-- the place of the finding
abbrev pub json_head : Row → List ℕ
json_head row = codes "{" ++ (json_place row.paths (record { source = row.finding.source; line = row.finding.line }) ++ (codes ",\"column\":" ++ decimal (column_of row)))

-- the kind of the finding
abbrev pub json_kind : Row → List ℕ
json_kind row = codes ",\"kind\":\"" ++ (kind_word row.finding.kind ++ (codes "\",\"message\":" ++ json_string (sentence_of row)))

abbrev pub json_row : Row → List ℕ
json_row row = json_head row ++ (json_kind row ++ (json_other row.paths (other_of row) ++ (json_reader (reader_of row.finding.kind) ++ codes "}\n")))

-- the number of findings of the kind with this word
abbrev pub count_of : List ℕ → List Row → ℕ
count_of word rows = length (filter (λ row. bytes_eq (kind_word row.finding.kind) word) rows)

-- the member for a kind
abbrev pub json_count : List Row → List ℕ → List ℕ
json_count rows word = codes "\"" ++ (word ++ (codes "\":" ++ (decimal (count_of word rows) ++ codes ",")))

-- the kinds about lines without a fault
abbrev pub json_line_counts : List Row → List ℕ
json_line_counts rows = json_count rows (codes "overridden") ++ (json_count rows (codes "repeated") ++ (json_count rows (codes "prefix") ++ json_count rows (codes "keysym")))

-- the kinds about the file itself
abbrev pub json_file_counts : List Row → List ℕ
json_file_counts rows = json_count rows (codes "fault") ++ json_line_counts rows

-- the kinds about texts
abbrev pub json_text_counts : List Row → List ℕ
json_text_counts rows = json_count rows (codes "mark") ++ (json_count rows (codes "form") ++ (json_count rows (codes "comment") ++ json_count rows (codes "redundant")))

-- the kinds about readers
abbrev pub json_reader_counts : List Row → List ℕ
json_reader_counts rows = json_count rows (codes "libX11") ++ (json_count rows (codes "libxkbcommon") ++ (json_count rows (codes "gtk3") ++ json_count rows (codes "gtk4")))

-- an object in a line, with all of these as the object `counts`, and the number of accepted
-- findings
abbrev pub json_counts : List Row → ℕ → List ℕ
json_counts rows accepted =
    codes "{\"counts\":{" ++ (json_file_counts rows ++ (json_text_counts rows ++ (json_reader_counts rows ++ (codes "\"accepted\":" ++ (decimal accepted ++ codes "}}\n")))))

-- an object for each finding that is left, and one with the counts
abbrev pub json_rows : List Row → List ℕ
json_rows rows = flat_map json_row rows

abbrev pub json_answer : List Row → List Row → List ℕ
json_answer rows left = json_rows left ++ json_counts left (length rows - length left)
