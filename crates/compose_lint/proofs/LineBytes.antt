-- The bytes of a line are those in the lines of its file.
use Rattle.std.proofs.Common.{◌≡◌, ◌∙◌, ℕ, zero, suc, ◌+◌, ◌-◌, Bool, List, [], ◌∷◌, ◌++◌, map, flat_map, refl, sym, ap, ap₂, get_or, arith}
use Rattle.std.specs.Prelude.{Option, Some, None, slice_get}
use Rattle.std.specs.Option.{option_map, option_map_or}
use Rattle.keysym_core.specs.Names.{KeysymNames}
use Rattle.compose_read.specs.Lines.{Source, numbered, source_lines}
use Rattle.compose_read.specs.declared.ReadFault.{ReadFault}
use Rattle.compose_messages.specs.Places.{line_at}
use Rattle.compose_lint.specs.Lines.{LintLine, SourceLines, lint_line, lint_source, sources_from, all_sources}
use Rattle.compose_lint.specs.Answers.{table_given}
use Rattle.compose_lint.specs.Findings.{findings}
use Rattle.compose_lint.specs.Rows.{Table, bytes_in, found_in, found_row, linted, linted_rows, row_of, table_faults, table_rows}
use Rattle.compose_lint.specs.declared.asking.LintTable.{LintTable}
use Rattle.compose_lint.specs.declared.finding.Finding.{Finding}
use Rattle.compose_lint.specs.declared.reader.Readers.{Readers}

abbrev nothing : Source
nothing = record { name = []; bytes = [] }

-- the line with this index
numbered_at : (names : KeysymNames) (sources : List Source) (source depth n : ℕ) (lines : List (List ℕ)) (i : ℕ)
    → option_map_or (λ (l : LintLine). l.bytes) (slice_get (map (lint_line names sources) (numbered source depth n lines)) i) [] ≡ get_or lines i []
numbered_at names sources source depth n [] i = refl
numbered_at names sources source depth n (line ∷ lines) zero = refl
numbered_at names sources source depth n (line ∷ lines) (suc i) = numbered_at names sources source depth (1 + n) lines i

abbrev line_bytes : Option LintLine → List ℕ
line_bytes l = option_map_or (λ (l : LintLine). l.bytes) l []

-- the file with this index
file_at : (names : KeysymNames) (sources : List Source) (is_all : Bool) (k : ℕ) (rest : List Source) (i j : ℕ) → j ≡ k + i
    → slice_get (sources_from names sources is_all k rest) i ≡ option_map (lint_source names sources is_all j) (slice_get rest i)
file_at names sources is_all k [] i j is = refl
file_at names sources is_all k (s ∷ rest) zero j is = let same : k ≡ j = omega (arith, is) in ap (λ n. Some (lint_source names sources is_all n s)) same
file_at names sources is_all k (s ∷ rest) (suc i) j is = file_at names sources is_all (1 + k) rest i j (omega (arith, is))

absent : (xs : List Source) (i : ℕ) → slice_get xs i ≡ None → get_or xs i nothing ≡ nothing
absent [] i none = refl
absent (x ∷ xs) zero none = cc
absent (x ∷ xs) (suc i) none = absent xs i none

-- the bytes of the line of a finding
pub same_bytes : (names : KeysymNames) (sources : List Source) (is_all : Bool) (f : Finding) → bytes_in (all_sources names sources is_all) f ≡ line_at sources f.source f.line
same_bytes names sources is_all f =
    ap (λ o. option_map_or (λ (file : SourceLines). line_bytes (slice_get file.lines (f.line - 1))) o []) (file_at names sources is_all 0 sources f.source f.source (omega arith))
    ∙ by (slice_get sources f.source) refl
  where
    by : (o : Option Source) → slice_get sources f.source ≡ o
        → option_map_or (λ (file : SourceLines). line_bytes (slice_get file.lines (f.line - 1))) (option_map (lint_source names sources is_all f.source) o) [] ≡ line_at sources f.source f.line
    by None none = sym (ap (λ (s : Source). get_or (source_lines s.bytes) (f.line - 1) []) (absent sources f.source none))
    by (Some s) some = numbered_at names sources f.source 0 1 (source_lines (get_or sources f.source nothing).bytes) (f.line - 1)

-- findings with the bytes of their lines, and then with the data of their table
same_rows : (names : KeysymNames) (is_all : Bool) (t : Table) (faults : List ReadFault) (found : List Finding)
    → map (found_row t faults) (map (found_in (all_sources names t.sources is_all)) found) ≡ map (row_of t faults) found
same_rows names is_all t faults [] = refl
same_rows names is_all t faults (f ∷ found) =
    ap (λ bytes. record { sources = t.sources; paths = t.paths; faults = faults; finding = f; bytes = bytes } ∷ map (found_row t faults) (map (found_in (all_sources names t.sources is_all)) found))
    (same_bytes names t.sources is_all f)
    ∙ ap (λ rows. row_of t faults f ∷ rows) (same_rows names is_all t faults found)

-- the findings in tables
pub rows_are : (names : KeysymNames) (readers : Readers) (is_all : Bool) (tables : List LintTable)
    → flat_map linted_rows (map (λ t. linted names readers is_all (table_given t)) tables) ≡ flat_map (table_rows names readers is_all) (map table_given tables)
rows_are names readers is_all [] = refl
rows_are names readers is_all (t ∷ tables) =
    let given = table_given t in
    ap₂ (λ rows more. rows ++ more) (same_rows names is_all given (table_faults names given) (findings names readers is_all (table_faults names given) given.sources)) (rows_are names readers is_all tables)
