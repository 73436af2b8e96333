-- The whole page (this project's profile).
use Rattle.std.specs.Prelude.{ℕ, Bool, true, false, not, ◌==◌, ◌-◌, ◌&&◌, nat_lt, if◌then◌else◌, List, [], ◌∷◌, ◌++◌, length, flat_map, codes}
use Rattle.std.specs.Fmt.{decimal}
use Rattle.compose_diff.specs.Counts.{counts_of, counts_line}
use Rattle.compose_diff.specs.Overlaps.{overlaps_line}
use Rattle.compose_diff.specs.declared.answer.Printed.{Printed}
use Rattle.compose_diff.specs.declared.counts.Counts.{Counts}
use Rattle.compose_diff.specs.declared.overlaps.Overlaps.{Overlaps}
use Rattle.compose_diff.specs.declared.row.DiffRow.{DiffRow}
use Rattle.compose_page.specs.Cells.{row_text}
use Rattle.compose_page.specs.Sections.{rows_in, is_folded, title, caption}
use Rattle.compose_page.specs.declared.markup.Markup.{Markup}
use Rattle.compose_page.specs.declared.markup.Markup.TheVariants.{Markdown, Html}
use Rattle.compose_page.specs.declared.section.Section.{Section}
use Rattle.compose_page.specs.declared.section.Section.TheVariants.{Lost, Otherwise, Starts, Additions}

-- ---- headings

abbrev pub heading_begin : Markup → Bool → List ℕ
heading_begin markup true = codes "<details>\n<summary>"
heading_begin Markdown false = codes "## "
heading_begin Html false = codes "<h2>"

abbrev pub heading_end : Markup → Bool → List ℕ
heading_end markup true = codes "</summary>\n\n"
heading_end Markdown false = codes "\n\n"
heading_end Html false = codes "</h2>\n"

abbrev pub sequences_word : ℕ → List ℕ
sequences_word n = if n == 1 then codes " sequence" else codes " sequences"

-- its words, and its number of sequences
abbrev pub heading : Markup → Bool → Section → ℕ → List ℕ
heading markup folded section n =
    heading_begin markup folded ++ (title section ++ ((codes " (" ++ (decimal n ++ (sequences_word n ++ codes ")"))) ++ heading_end markup folded))

-- ---- tables

abbrev pub caption_text : Markup → Section → List ℕ
caption_text Markdown section = caption section ++ codes "\n\n"
caption_text Html section = codes "<table>\n<caption>" ++ (caption section ++ codes "</caption>\n")

-- the headings of the columns
abbrev pub table_head : Markup → Section → List ℕ
table_head Markdown Lost = codes "| Text | Characters | Keys | What happens | Places |\n|---|---|---|---|---|\n"
table_head Markdown Otherwise = codes "| Text | Characters | Old keys | New keys | What happens | Places |\n|---|---|---|---|---|---|\n"
table_head Markdown _ = codes "| Text | Characters | Keys | Places |\n|---|---|---|---|\n"
table_head Html Lost = codes "<thead><tr><th scope=\"col\">Text</th><th scope=\"col\">Characters</th><th scope=\"col\">Keys</th><th scope=\"col\">What happens</th><th scope=\"col\">Places</th></tr></thead>\n<tbody>\n"
table_head Html Otherwise = codes "<thead><tr><th scope=\"col\">Text</th><th scope=\"col\">Characters</th><th scope=\"col\">Old keys</th><th scope=\"col\">New keys</th><th scope=\"col\">What happens</th><th scope=\"col\">Places</th></tr></thead>\n<tbody>\n"
table_head Html _ = codes "<thead><tr><th scope=\"col\">Text</th><th scope=\"col\">Characters</th><th scope=\"col\">Keys</th><th scope=\"col\">Places</th></tr></thead>\n<tbody>\n"

abbrev pub table_end : Markup → List ℕ
table_end Markdown = codes "\n"
table_end Html = codes "</tbody>\n</table>\n"

abbrev pub rows_text : Markup → List DiffRow → List ℕ
rows_text markup rows = flat_map (row_text markup) rows

-- none if there are no rows
abbrev pub table_text : Markup → Section → List DiffRow → List ℕ
table_text markup section [] = []
table_text markup section (row ∷ rows) = caption_text markup section ++ (table_head markup section ++ (rows_text markup (row ∷ rows) ++ table_end markup))

-- ---- parts

abbrev pub section_end : Bool → List ℕ
section_end folded = if folded then codes "</details>\n\n" else []

-- the part of these rows
abbrev pub section_of : Markup → Bool → Section → List DiffRow → List ℕ
section_of markup folded section rows = heading markup folded section (length rows) ++ (table_text markup section rows ++ section_end folded)

-- folded if parts are to be folded, this part is, and it has rows
abbrev pub section_by : Markup → Bool → Section → List DiffRow → List ℕ
section_by markup folds section rows = section_of markup (folds && is_folded section && not (length rows == 0)) section rows

abbrev pub section_text : Markup → Bool → Section → List DiffRow → List ℕ
section_text markup folds section left = section_by markup folds section (rows_in section left)

-- all parts, or that of the lost texts alone
abbrev pub other_sections : Markup → Bool → List DiffRow → List ℕ
other_sections markup folds left = section_text markup folds Otherwise left ++ (section_text markup folds Starts left ++ section_text markup folds Additions left)

abbrev pub sections_text : Markup → Printed → List DiffRow → List ℕ
sections_text markup printed left = section_text markup printed.folds Lost left ++ (if printed.lost_alone then [] else other_sections markup printed.folds left)

-- ---- the page

abbrev pub page_begin : Markup → List ℕ
page_begin Markdown = []
page_begin Html = codes "<!DOCTYPE html>\n<html lang=\"en\">\n<head>\n<meta charset=\"utf-8\">\n<meta name=\"viewport\" content=\"width=device-width\">\n<title>Changes of a Compose table</title>\n<style>\n:root { color-scheme: light dark }\nbody { font-family: sans-serif; line-height: 1.5; margin: 1em auto; max-width: 80em; padding: 0 1em }\ntable { border-collapse: collapse; margin: 1em 0 }\ncaption { text-align: left; padding: .3em 0 }\nth, td { border: 1px solid #888; padding: .2em .6em; text-align: left }\nb { font-size: 2em; font-weight: normal; line-height: 1.2 }\nkbd { border: 1px solid; border-radius: .3em; padding: 0 .3em; white-space: nowrap }\ndel { color: #b00000; text-decoration: line-through }\nins { color: #006000; text-decoration: underline }\nsummary { font-size: 1.5em; font-weight: bold }\npre { white-space: pre-wrap }\n@media (prefers-color-scheme: dark) { del { color: #ff9090 } ins { color: #90e090 } }\n</style>\n</head>\n<body>\n<h1>Changes of a Compose table</h1>\n"

abbrev pub page_end : Markup → List ℕ
page_end Markdown = codes "</pre>\n"
page_end Html = codes "</pre>\n</body>\n</html>\n"

-- the line of the overlaps, and that of the counts
abbrev pub end_text : Markup → Counts → Overlaps → List ℕ
end_text markup counts overlaps = codes "<pre>\n" ++ (overlaps_line overlaps ++ (counts_line counts ++ page_end markup))

-- for the rows that are left, with these counts
abbrev pub counted_page : Markup → Printed → Overlaps → List DiffRow → Counts → List ℕ
counted_page markup printed overlaps left counts = page_begin markup ++ (sections_text markup printed left ++ end_text markup counts overlaps)

-- for the rows that are left of all rows
abbrev pub page_text : Markup → Printed → Overlaps → List DiffRow → List DiffRow → List ℕ
page_text markup printed overlaps rows left = counted_page markup printed overlaps left (counts_of left (length rows - length left))
