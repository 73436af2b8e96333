-- The report of the skipped lines of the tables of `lint`, one table after another.
use Rattle.std.proofs.Common.{◌≡◌, ◌∙◌, ◌+◌, ◌<◌, ap, sym, add-one, ℕ, List, [], ◌∷◌, ◌++◌, get_or, length, length-append, map, take}
use Rattle.std.specs.Prelude.{flat_map}
use Rattle.std.proofs.Math.Seq.{take-suc}
use Rattle.std.proofs.lemmas.List.{flat_map_more}
use Rattle.std.proofs.lemmas.List.Folds.{flat_map-map}
use Rattle.compose_read.specs.declared.ReadFault.{ReadFault}
use Rattle.compose_input.specs.declared.tables.TableFiles.{TableFiles}
use Rattle.compose_skipped.specs.Kept.{skipped_faults}
use Rattle.compose_skipped.specs.Reported.{Reported, count_line, fault_lines, report_of, report_text, with_faults}
use Rattle.compose_runs.specs.declared.linting.ReadTable.{ReadTable}

abbrev faults_in : List ℕ → ReadTable → List ReadFault
faults_in header read = skipped_faults header read.table

abbrev lines_in : List ℕ → ReadTable → List ℕ
lines_in header read = fault_lines read.table (skipped_faults header read.table)

abbrev spec : List ℕ → ℕ → Reported
spec lines count = record { lines = lines; count = count }

-- the report for these tables
abbrev pub reported_in : List ℕ → List ReadTable → Reported
reported_in header tables = spec (flat_map (lines_in header) tables) (length (flat_map (faults_in header) tables))

take_more : (tables : List ReadTable) (i : ℕ) (read : ReadTable) → i < length tables → read ≡ get_or tables i read → take i tables ++ read ∷ [] ≡ take (i + 1) tables
take_more tables i read within at =
    ap (λ (r : ReadTable). take i tables ++ r ∷ []) at ∙ (sym (take-suc tables i read within) ∙ ap (λ n. take n tables) (sym (add-one i)))

-- another table
pub reported_more : (header : List ℕ) (tables : List ReadTable) (i : ℕ) (read : ReadTable) → i < length tables → read ≡ get_or tables i read
    → with_faults (reported_in header (take i tables)) read.table (skipped_faults header read.table) ≡ reported_in header (take (i + 1) tables)
reported_more header tables i read within at =
    let before = take i tables in let more = before ++ read ∷ [] in
    let count = length (flat_map (faults_in header) before) + length (faults_in header read) in
    let lines_more : flat_map (lines_in header) before ++ lines_in header read ≡ flat_map (lines_in header) more = flat_map_more (lines_in header) [] before read in
    let count_more : count ≡ length (flat_map (faults_in header) more) =
    sym (length-append (flat_map (faults_in header) before) (faults_in header read)) ∙ ap (λ (faults : List ReadFault). length faults) (flat_map_more (faults_in header) [] before read) in
    ap (λ (lines : List ℕ). spec lines count) lines_more
    ∙ (ap (λ (n : ℕ). spec (flat_map (lines_in header) more) n) count_more ∙ ap (reported_in header) (take_more tables i read within at))

-- the report for all of them
pub report_all : (header : List ℕ) (tables : List ReadTable) → report_of (reported_in header tables) ≡ report_text header (map (λ (read : ReadTable). read.table) tables)
report_all header tables =
    ap (λ (lines : List ℕ). lines ++ count_line (length (flat_map (faults_in header) tables)))
    (sym (flat_map-map (λ (t : TableFiles). fault_lines t (skipped_faults header t)) (λ (read : ReadTable). read.table) tables))
    ∙ ap (λ (faults : List ReadFault). flat_map (λ (t : TableFiles). fault_lines t (skipped_faults header t)) (map (λ (read : ReadTable). read.table) tables) ++ count_line (length faults))
    (sym (flat_map-map (λ (t : TableFiles). skipped_faults header t) (λ (read : ReadTable). read.table) tables))
