-- Of lines without a fault, the productions are the definitions.
use Rattle.std.proofs.Common.{◌≡◌, ◌≤◌, ◌+◌, ℕ, List, [], ◌∷◌, ◌++◌, Bool, true, false, cond, not, ◌&&◌, length, map, take, nat_lt, nat_le, refl, sym, ◌∙◌, ap, arith}
use Rattle.std.specs.Prelude.{Option, Some, None, Result, Ok, Err, is_ok, filter, option_to_list}
use Rattle.std.specs.Str.{is_utf8}
use Rattle.std.proofs.lemmas.Bool.{and_parts, leb-false}
use Rattle.std.proofs.lemmas.List.{take_all, length-map}
use Rattle.compose_text.specs.Results.{◌>>=◌}
use Rattle.keysym_core.specs.Names.{KeysymNames}
use Rattle.compose_model.specs.Table.{Definition}
use Rattle.compose_lex.specs.Line.{Reading, blank, include, production}
use Rattle.compose_lex.specs.Fault.{reading_of}
use Rattle.compose_lex.specs.declared.LexFault.{LexFault}
use Rattle.compose_read.specs.Lines.{Source, Visit, source_named, visits, max_depth}
use Rattle.compose_read.specs.Read.{at_line, reading_result, line_result, definition_of, with_room, read_on, definitions_of, max_lines}
use Rattle.compose_read.specs.Kept.{definitions_in, given, are_faultless}
use Rattle.compose_read.specs.declared.ReadFault.{ReadFault}
use Rattle.compose_read.specs.declared.ReadFault.TheVariants as faults
use Rattle.compose_read.proofs.Faultless.{read_to_end}
use Rattle.compose_places.specs.Places.{is_production, is_definition_line, definition_lines, place_of, definition_places}

module _ (names : KeysymNames) (sources : List Source) where
  -- ---- one line

  -- a line is classified as a definition exactly if it gives one
  abbrev IsDefinitionResult : Bool → Result (Option Definition) ReadFault → Type 0
  IsDefinitionResult true (Ok (Some d)) = Unit {0}
  IsDefinitionResult false (Ok None) = Unit {0}
  IsDefinitionResult says gives = ⊥

  decided : (v : Visit) → is_ok (line_result names sources v) ≡ true → IsDefinitionResult (is_definition_line v.bytes) (line_result names sources v)
  decided v h = by_text (is_utf8 v.bytes) (reading_of v.bytes) h
    where
      by_include : (missing room : Bool)
          → is_ok (let r : Result (Option Definition) ReadFault = cond missing (Err (faults.MissingInclude v.source v.line)) (cond room (Ok None) (Err (faults.IncludeDepth v.source v.line))) in r)
          ≡ true
          → IsDefinitionResult false (cond missing (Err (faults.MissingInclude v.source v.line)) (cond room (Ok None) (Err (faults.IncludeDepth v.source v.line))))
      by_include true room h = cc
      by_include false true h = tt
      by_include false false h = cc

      by_definition : (r : Result Definition ReadFault) → is_ok (r >>= (λ d. let x : Result (Option Definition) ReadFault = Ok (Some d) in x)) ≡ true
          → IsDefinitionResult true (r >>= (λ d. let x : Result (Option Definition) ReadFault = Ok (Some d) in x))
      by_definition (Ok d) h = tt
      by_definition (Err e) h = cc

      by_text : (text : Bool) (r : Result Reading LexFault) → is_ok (cond text (at_line v r >>= reading_result names sources v) (Err (faults.NotUtf8 v.source v.line))) ≡ true
          → IsDefinitionResult (text && is_production r) (cond text (at_line v r >>= reading_result names sources v) (Err (faults.NotUtf8 v.source v.line)))
      by_text false r h = cc
      by_text true (Err e) h = cc
      by_text true (Ok blank) h = tt
      by_text true (Ok (include name)) h = by_include (not (nat_lt (source_named sources name) (length sources))) (nat_lt v.depth max_depth) h
      by_text true (Ok (production events raw name)) h = by_definition (definition_of names v events raw name) h

  -- ---- lines

  -- the definitions of lines that each give one
  abbrev each : List Definition → List (Result (Option Definition) ReadFault)
  each table = map (λ d. Ok (Some d)) table

  abbrev definitions_only : List Visit → List Visit
  definitions_only vs = filter (λ v. is_definition_line v.bytes) vs

  lines_give : (vs : List Visit) → are_faultless names sources vs ≡ true → map (line_result names sources) (definitions_only vs) ≡ each (given names sources vs)
  lines_give [] h = refl
  lines_give (v ∷ vs) h =
      let parts = and_parts (is_ok (line_result names sources v)) (are_faultless names sources vs) h in
      go (is_definition_line v.bytes) (line_result names sources v) refl (decided v parts.0) (lines_give vs parts.1)
    where
      go : (says : Bool) (r : Result (Option Definition) ReadFault) → line_result names sources v ≡ r → IsDefinitionResult says r → map (line_result names sources) (definitions_only vs) ≡ each (given names sources vs)
          → map (line_result names sources) (cond says (v ∷ definitions_only vs) (definitions_only vs)) ≡ each (definitions_in r ++ given names sources vs)
      go true (Ok (Some d)) e t others = λ i. e i ∷ others i
      go true (Ok None) e t others = absurd t
      go true (Err f) e t others = absurd t
      go false (Ok (Some d)) e t others = absurd t
      go false (Ok None) e t others = others
      go false (Err f) e t others = absurd t

  -- ---- all lines

  abbrev AreFew : List Visit → Type 0
  AreFew vs = (n m : ℕ) (t : List Definition) → read_on names sources n m vs ≡ Ok t → n ≤ max_lines → n + length vs ≤ max_lines

  -- lines that are read to the end are no more than the limit
  pub few : (vs : List Visit) (lines definitions : ℕ) (table : List Definition) → read_on names sources lines definitions vs ≡ Ok table → lines ≤ max_lines → lines + length vs ≤ max_lines
  few [] lines definitions table h l = omega (arith, l)
  few (v ∷ vs) lines definitions table h l = by_many (λ n m t e k. few vs n m t e k) (nat_le max_lines lines) refl h
    where
      by_others : AreFew vs → (found : Option Definition) (r : Result (List Definition) ReadFault) → read_on names sources (1 + lines) (length (option_to_list found) + definitions) vs ≡ r
          → nat_le max_lines lines ≡ false
          → (r >>= (λ t. Ok (option_to_list found ++ t))) ≡ Ok table → lines + length (v ∷ vs) ≤ max_lines
      by_others others found (Err f) e less h = cc
      by_others others found (Ok t) e less h =
          let more = others (1 + lines) (length (option_to_list found) + definitions) t e (omega (arith, leb-false max_lines lines less)) in omega (arith, more)

      by_found : AreFew vs → (r : Result (Option Definition) ReadFault) → nat_le max_lines lines ≡ false
          → (r >>= (λ found. read_on names sources (1 + lines) (length (option_to_list found) + definitions) vs >>= (λ t. Ok (option_to_list found ++ t)))) ≡ Ok table
          → lines + length (v ∷ vs) ≤ max_lines
      by_found others (Err f) less h = cc
      by_found others (Ok found) less h = by_others others found (read_on names sources (1 + lines) (length (option_to_list found) + definitions) vs) refl less h

      by_many : AreFew vs → (many : Bool) → nat_le max_lines lines ≡ many
          → (cond many (Err (faults.TooManyLines v.source v.line)) (line_result names sources v >>= with_room v definitions) >>=
          (λ found. read_on names sources (1 + lines) (length (option_to_list found) + definitions) vs >>= (λ t. Ok (option_to_list found ++ t)))) ≡ Ok table
          → lines + length (v ∷ vs) ≤ max_lines
      by_many others true e h = cc
      by_many others false e h = by_found others (line_result names sources v >>= with_room v definitions) e h

  module _ (root : List ℕ) (table : List Definition) where
    -- if the definitions are read without a fault, the lines of definitions give them, one each and
    -- in order
    pub definition_lines_exact : definitions_of names sources root ≡ Ok table → map (line_result names sources) (definition_lines sources root) ≡ each table
    definition_lines_exact h = go (nat_lt (source_named sources root) (length sources)) h
      where
        all : List Visit
        all = visits sources (source_named sources root)

        go : (there : Bool) → cond there (read_on names sources 0 0 all) (Err faults.MissingRoot) ≡ Ok table
            → map (line_result names sources) (cond there (definitions_only (take max_lines all)) []) ≡ each table
        go false h = cc
        go true h =
            let read = read_to_end names sources all 0 0 table h in let no_more = few all 0 0 table h (omega arith) in
            ap (λ vs. map (line_result names sources) (definitions_only vs)) (take_all max_lines all (omega (arith, no_more))) ∙ lines_give all read.0 ∙ ap each (sym read.1)

    -- if the definitions are read without a fault, there are as many places as definitions
    pub as_many : definitions_of names sources root ≡ Ok table → length (definition_places sources root) ≡ length table
    as_many h =
        length-map (definition_lines sources root) place_of ∙ sym (length-map (definition_lines sources root) (line_result names sources)) ∙ ap (λ rs. length rs) (definition_lines_exact h)
        ∙ length-map table (λ d. let x : Result (Option Definition) ReadFault = Ok (Some d) in x)
