-- Reading on by one line, and by the lines of an included source.
use Rattle.std.proofs.Common.{◌≡◌, ◌<◌, ◌+◌, List, [], ◌∷◌, ◌++◌, cond, length, refl, sym, ◌∙◌, ap, ap₂, append_assoc, arith, length-append}
use Rattle.std.specs.Prelude.{Option, Some, None, option_to_list, Result, Ok, Err}
use Rattle.std.proofs.lemmas.Bool.{lt-leb}
use Rattle.compose_text.specs.Results.{◌>>=◌}
use Rattle.keysym_core.specs.Names.{KeysymNames}
use Rattle.compose_model.specs.Table.{Definition}
use Rattle.compose_read.specs.Lines.{Source, Visit}
use Rattle.compose_read.specs.Read.{line_result, with_room, read_on, max_lines, max_definitions}
use Rattle.compose_read.specs.Rows.{DraftRows}
use Rattle.compose_read.specs.Progress.{with_prefix, read_so_far, reading_on}
use Rattle.compose_read.specs.declared.ReadFault.{ReadFault}
use Rattle.compose_read.specs.declared.ReadFault.TheVariants as faults
use Rattle.compose_read.specs.declared.reading.Progress.{Progress}

put_after : (table : List Definition) (d : Definition) (r : Result (List Definition) ReadFault) → with_prefix table (r >>= (λ more. Ok (d ∷ more))) ≡ with_prefix (table ++ d ∷ []) r
put_after table d (Ok more) = ap Ok (sym (append_assoc table (d ∷ []) more))
put_after table d (Err e) = refl

none_later : (table : List Definition) (r : Result (List Definition) ReadFault) → with_prefix table (r >>= (λ more. Ok ([] ++ more))) ≡ with_prefix table r
none_later table (Ok more) = refl
none_later table (Err e) = refl

-- what is read after a line with this result
abbrev goes_on : KeysymNames → List Source → Progress → List Visit → Option Definition → Result (List Definition) ReadFault
goes_on names sources p ws found = read_on names sources (1 + p.lines) (length (option_to_list found) + length p.draft.table) ws >>= (λ table. Ok (option_to_list found ++ table))

line_taken : (names : KeysymNames) (sources : List Source) (p : Progress) (v : Visit) (ws : List Visit) (found : Option Definition) → p.lines < 1000000 → line_result names sources v ≡ Ok found
    → reading_on names sources p (v ∷ ws) ≡ with_prefix p.draft.table (with_room v (length p.draft.table) found >>= goes_on names sources p ws)
line_taken names sources p v ws found l h =
    ap (λ b. with_prefix p.draft.table (cond b (Err (faults.TooManyLines v.source v.line)) (line_result names sources v >>= with_room v (length p.draft.table)) >>= goes_on names sources p ws))
    (lt-leb max_lines p.lines l)
    ∙ ap (λ r. with_prefix p.draft.table ((r >>= with_room v (length p.draft.table)) >>= goes_on names sources p ws)) h

-- a line without a fault and without a definition adds nothing
pub nothing_read : (names : KeysymNames) (sources : List Source) (p : Progress) (v : Visit) (ws : List Visit) → p.lines < 1000000 → line_result names sources v ≡ Ok None
    → reading_on names sources p (v ∷ ws) ≡ reading_on names sources (read_so_far (p.lines + 1) p.draft) ws
nothing_read names sources p v ws l h =
    let one : 1 + p.lines ≡ p.lines + 1 = omega arith in let same : 0 + length p.draft.table ≡ length p.draft.table = omega arith in
    line_taken names sources p v ws None l h
    ∙ none_later p.draft.table (read_on names sources (1 + p.lines) (0 + length p.draft.table) ws)
    ∙ ap₂ (λ n m. with_prefix p.draft.table (read_on names sources n m ws)) one same

-- the definition on a line is put after the others
pub definition_read : (names : KeysymNames) (sources : List Source) (p : Progress) (after : DraftRows) (v : Visit) (d : Definition) (ws : List Visit) → after.table ≡ p.draft.table ++ d ∷ []
    → p.lines < 1000000 → line_result names sources v ≡ Ok (Some d) → length p.draft.table < 100000
    → reading_on names sources p (v ∷ ws) ≡ reading_on names sources (read_so_far (p.lines + 1) after) ws
definition_read names sources p after v d ws t l h m =
    line_taken names sources p v ws (Some d) l h
    ∙ ap (λ b. with_prefix p.draft.table (cond b (Err (faults.TooManyDefinitions v.source v.line)) (Ok (Some d)) >>= goes_on names sources p ws)) (lt-leb max_definitions (length p.draft.table) m)
    ∙ put_after p.draft.table d (read_on names sources (1 + p.lines) (1 + length p.draft.table) ws)
    ∙ ap₂ (λ n m. with_prefix (p.draft.table ++ d ∷ []) (read_on names sources n m ws)) lines more
    ∙ ap (λ table. with_prefix table (read_on names sources (p.lines + 1) (length table) ws)) (sym t)
  where
    lines : 1 + p.lines ≡ p.lines + 1
    lines = omega arith

    more : 1 + length p.draft.table ≡ length (p.draft.table ++ d ∷ [])
    more = omega (arith, length-append p.draft.table (d ∷ []))
