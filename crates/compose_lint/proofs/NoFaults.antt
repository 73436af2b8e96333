-- A table whose lines are clean has no faults.
use Rattle.std.proofs.Common.{◌≡◌, ◌∙◌, ℕ, zero, suc, ◌+◌, ◌-◌, ◌<◌, ◌≤◌, Bool, true, false, cond, not, List, [], ◌∷◌, ◌++◌, length, take, drop, map, get_or, refl, sym, ap, ap₂, arith}
use Rattle.std.specs.Prelude.{Option, Some, None, Result, Ok, Err, is_some, nat_lt, nat_le, ◌&&◌, ◌||◌, flat_map}
use Rattle.std.specs.List.{filter_map, list_all}
use Rattle.std.specs.Option.{option_map_or, option_and_then}
use Rattle.std.specs.Result.{result_err}
use Rattle.std.specs.Str.{is_utf8}
use Rattle.std.proofs.lemmas.Bool.{and_parts, ltb-true, lt-ltb, leb-true}
use Rattle.std.proofs.lemmas.List.{take-append-drop}
use Rattle.std.proofs.lemmas.Option.{same_Some}
use Rattle.std.proofs.lemmas.Slice.Eq.{bytes_eq-Decides}
use Rattle.std.proofs.lemmas.List.Elements.{filter_map-append}
use Rattle.compose_text.specs.Results.{◌>>=◌}
use Rattle.keysym_core.specs.Names.{KeysymNames}
use Rattle.compose_model.specs.Table.{Definition}
use Rattle.compose_lex.specs.Line.{Reading, blank, include, production}
use Rattle.compose_lex.specs.Fault.{reading_of}
use Rattle.compose_lex.specs.declared.LexFault.{LexFault}
use Rattle.compose_read.specs.Lines.{Source, Visit, included, included_by, source_named, source_lines, numbered, visits_below, visits, max_depth}
use Rattle.compose_read.specs.Read.{max_lines, at_line, reading_result}
use Rattle.compose_read.specs.Faults.{fault_of}
use Rattle.compose_read.specs.declared.ReadFault.{ReadFault}
use Rattle.compose_read.specs.declared.ReadFault.TheVariants.{NotUtf8, MissingInclude, IncludeDepth}
use Rattle.compose_lint.specs.Productions.{parts_of, production_of, definition_given}
use Rattle.compose_lint.specs.Lines.{SourceLines, definition_in, lint_line, lines_in, sources_from, all_sources}
use Rattle.compose_lint.specs.Faults.{is_clean, is_clean_text, is_clean_reading, is_later, is_surely_faultless}
use Rattle.compose_lint.specs.Rows.{first_faults}
use Rattle.compose_lint.proofs.Given.{given_is}

no_and : (b : Bool) → (b || false) ≡ true → b ≡ true
no_and true e = refl
no_and false e = e

clash : {X : Type 0} → false ≡ true → X
clash e = absurd (let h : true ≡ false = sym e in cc)

-- a line that defines something has no fault
defines : (r : Result (Option Definition) ReadFault) → is_some (definition_in r) ≡ true → result_err r ≡ None
defines (Ok d) e = refl
defines (Err f) e = clash e

-- all lines are free of faults
module _ (names : KeysymNames) (sources : List Source) (few : length sources ≤ 9) where
  abbrev is_free : Visit → Type 0
  is_free v = fault_of names sources v ≡ None

  -- the include of a later source
  later : (source : ℕ) (name : List ℕ) → is_later sources source name ≡ true → (source < source_named sources name) × (nat_lt (source_named sources name) (length sources) ≡ true) × (source_named sources name < length sources)
  later source name e =
      let parts = and_parts (nat_lt source (source_named sources name)) (nat_lt (source_named sources name) (length sources)) e in
      (ltb-true source (source_named sources name) parts.0, parts.1, ltb-true (source_named sources name) (length sources) parts.1)

  -- a visited line that is clean has no fault, and includes a later source, if any
  module _ (v : Visit) (shallow : v.depth ≤ v.source) where
    include_free : (name : List ℕ) → is_later sources v.source name ≡ true
        → result_err (cond (not (nat_lt (source_named sources name) (length sources))) (let x : Result (Option Definition) ReadFault = Err (MissingInclude v.source v.line) in x) (cond (nat_lt v.depth max_depth) (Ok None) (Err (IncludeDepth v.source v.line)))) ≡ None
    include_free name e =
        let h = later v.source name e in let at = h.0 in let within = h.2 in
        rw h.1 (rw (lt-ltb v.depth 8 (omega (arith, shallow, at, within, few))) refl)

    free_by : (u : Bool) (r : Result Reading LexFault)
        → (is_some (option_and_then (definition_given names) (cond u (parts_of r) None)) || (u && is_clean_reading sources v.source r)) ≡ true
        → definition_in (cond u (at_line v r >>= reading_result names sources v) (Err (NotUtf8 v.source v.line))) ≡ option_and_then (definition_given names) (cond u (parts_of r) None)
        → result_err (cond u (at_line v r >>= reading_result names sources v) (Err (NotUtf8 v.source v.line))) ≡ None
    free_by false r e given = clash e
    free_by true (Err f) e given = clash e
    free_by true (Ok blank) e given = refl
    free_by true (Ok (include name)) e given = include_free name e
    free_by true (Ok (production events raw name)) e given =
        defines (at_line v (Ok (production events raw name)) >>= reading_result names sources v) (ap is_some given ∙ no_and _ e)

    after_by : (u : Bool) (r : Result Reading LexFault)
        → (is_some (option_and_then (definition_given names) (cond u (parts_of r) None)) || (u && is_clean_reading sources v.source r)) ≡ true
        → (j : ℕ) → cond u (included_by sources r) None ≡ Some j → (v.source < j) × (j < length sources)
    after_by false r e j is = clash e
    after_by true (Err f) e j is = clash e
    after_by true (Ok blank) e j is = absurd (let h : None ≡ Some j = is in cc)
    after_by true (Ok (include name)) e j is =
        let h = later v.source name e in
        let same : source_named sources name ≡ j = same_Some (source_named sources name) j (ap (λ b. let o : Option ℕ = cond b (Some (source_named sources name)) None in o) (sym h.1) ∙ is) in
        let at = h.0 in let within = h.2 in (omega (arith, at, same), omega (arith, within, same))
    after_by true (Ok (production events raw name)) e j is = absurd (let h : None ≡ Some j = is in cc)

    clean_is_free : (is_some (option_and_then (definition_given names) (production_of v.bytes)) || is_clean_text sources v.source v.bytes) ≡ true → is_free v
    clean_is_free e = free_by (is_utf8 v.bytes) (reading_of v.bytes) e (given_is names sources v)

    clean_after : (is_some (option_and_then (definition_given names) (production_of v.bytes)) || is_clean_text sources v.source v.bytes) ≡ true
        → (j : ℕ) → included sources v.bytes ≡ Some j → (v.source < j) × (j < length sources)
    clean_after e = after_by (is_utf8 v.bytes) (reading_of v.bytes) e

  -- ---- the lines of a source

  -- whatever the depth of the visit, the line is the same
  abbrev at_depth : ℕ → ℕ → ℕ → List ℕ → Visit
  at_depth source depth n line = record { source = source; line = n; bytes = line; depth = depth }

  clean_at : (source depth n : ℕ) (line : List ℕ) → is_clean sources (lint_line names sources (at_depth source 0 n line)) ≡ true
      → (is_some (option_and_then (definition_given names) (production_of line)) || is_clean_text sources source line) ≡ true
  clean_at source depth n line e =
      ap (λ d. is_some d || is_clean_text sources source line) (sym (given_is names sources (at_depth source 0 n line))) ∙ e

  append_free : (vs ws : List Visit) → filter_map (fault_of names sources) vs ≡ [] → filter_map (fault_of names sources) ws ≡ [] → filter_map (fault_of names sources) (vs ++ ws) ≡ []
  append_free vs ws a b = filter_map-append (fault_of names sources) vs ws ∙ ap₂ (λ xs ys. xs ++ ys) a b

  cons_free : (v : Visit) (vs : List Visit) → is_free v → filter_map (fault_of names sources) vs ≡ [] → filter_map (fault_of names sources) (v ∷ vs) ≡ []
  cons_free v vs a b = append_free (v ∷ []) vs (rw a refl) b

  abbrev AreFree : List Visit → Type 0
  AreFree vs = filter_map (fault_of names sources) vs ≡ []

  -- the deepest lines
  last_free : (source n : ℕ) (lines : List (List ℕ)) → 8 ≤ source → list_all (is_clean sources) (map (lint_line names sources) (numbered source 0 n lines)) ≡ true
      → AreFree (numbered source 8 n lines)
  last_free source n [] deep e = refl
  last_free source n (line ∷ lines) deep e =
      let parts = and_parts (is_clean sources (lint_line names sources (at_depth source 0 n line))) (list_all (is_clean sources) (map (lint_line names sources) (numbered source 0 (1 + n) lines))) e in
      cons_free (at_depth source 8 n line) (numbered source 8 (1 + n) lines) (clean_is_free (at_depth source 8 n line) deep (clean_at source 8 n line parts.0)) (last_free source (1 + n) lines deep parts.1)

  -- the lines of a source, each with what it includes
  each_free : (left : ℕ) → suc left ≤ 8 → ((j : ℕ) → 8 - left ≤ j → j < length sources → AreFree (visits_below sources left j))
      → (source n : ℕ) (lines : List (List ℕ)) → 8 - suc left ≤ source → list_all (is_clean sources) (map (lint_line names sources) (numbered source 0 n lines)) ≡ true
      → AreFree (flat_map (λ v. v ∷ option_map_or (visits_below sources left) (included sources v.bytes) []) (numbered source (8 - suc left) n lines))
  each_free left levels below source n [] deep e = refl
  each_free left levels below source n (line ∷ lines) deep e =
      let v = at_depth source (8 - suc left) n line in
      let parts = and_parts (is_clean sources (lint_line names sources (at_depth source 0 n line))) (list_all (is_clean sources) (map (lint_line names sources) (numbered source 0 (1 + n) lines))) e in
      let here = clean_at source (8 - suc left) n line parts.0 in
      cons_free v _ (clean_is_free v deep here)
      (append_free (option_map_or (visits_below sources left) (included sources line) []) _ (by (included sources line) (clean_after v deep here)) (each_free left levels below source (1 + n) lines deep parts.1))
    where
      by : (o : Option ℕ) → ((j : ℕ) → o ≡ Some j → (source < j) × (j < length sources)) → AreFree (option_map_or (visits_below sources left) o [])
      by None h = refl
      by (Some j) h = let after = (h j refl).0 in below j (omega (arith, after, deep, levels)) (h j refl).1

  module _ (clean : (i : ℕ) → i < length sources → list_all (is_clean sources) (lines_in names sources i) ≡ true) where
    below_free : (left : ℕ) → left ≤ 8 → (source : ℕ) → 8 - left ≤ source → source < length sources → AreFree (visits_below sources left source)
    below_free zero levels source deep within = last_free source 1 (source_lines (get_or sources source (record { name = []; bytes = [] })).bytes) deep (clean source within)
    below_free (suc left) levels source deep within =
        each_free left levels (λ j. below_free left (omega (arith, levels)) j) source 1 (source_lines (get_or sources source (record { name = []; bytes = [] })).bytes) deep (clean source within)

-- the lines of each source, if all are clean
clean_files : (names : KeysymNames) (sources : List Source) (is_all : Bool) (k : ℕ) (rest : List Source)
    → list_all (λ (f : SourceLines). list_all (is_clean sources) f.lines) (sources_from names sources is_all k rest) ≡ true
    → (i j : ℕ) → j ≡ k + i → i < length rest → list_all (is_clean sources) (lines_in names sources j) ≡ true
clean_files names sources is_all k [] e i j is within = absurd (omega (arith, within))
clean_files names sources is_all k (s ∷ rest) e zero j is within =
    let parts = and_parts (list_all (is_clean sources) (lines_in names sources k)) (list_all (λ (f : SourceLines). list_all (is_clean sources) f.lines) (sources_from names sources is_all (1 + k) rest)) e in
    let same : j ≡ k = omega (arith, is) in ap (λ n. list_all (is_clean sources) (lines_in names sources n)) same ∙ parts.0
clean_files names sources is_all k (s ∷ rest) e (suc i) j is within =
    let parts = and_parts (list_all (is_clean sources) (lines_in names sources k)) (list_all (λ (f : SourceLines). list_all (is_clean sources) f.lines) (sources_from names sources is_all (1 + k) rest)) e in
    clean_files names sources is_all (1 + k) rest parts.1 i j (omega (arith, is)) (omega (arith, within))

nothing_before : {X : Type 0} (xs ys : List X) → xs ++ ys ≡ [] → xs ≡ []
nothing_before [] ys e = refl
nothing_before (x ∷ xs) ys e = absurd (let h : x ∷ (xs ++ ys) ≡ [] = e in cc)

take_none : {X Y : Type 0} (h : X → Option Y) (n : ℕ) (xs : List X) → filter_map h xs ≡ [] → filter_map h (take n xs) ≡ []
take_none h n xs e =
    nothing_before (filter_map h (take n xs)) (filter_map h (drop n xs)) (sym (filter_map-append h (take n xs) (drop n xs)) ∙ ap (filter_map h) (take-append-drop n xs) ∙ e)

first_named : (s : Source) (rest : List Source) → source_named (s ∷ rest) s.name ≡ 0
first_named s rest = rw ((bytes_eq-Decides s.name s.name).1 refl) refl

-- they have no faults
pub no_faults : (names : KeysymNames) (sources : List Source) (is_all : Bool) → is_surely_faultless sources (all_sources names sources is_all) ≡ true
    → first_faults names sources ≡ []
no_faults names [] is_all e = clash e
no_faults names (s ∷ rest) is_all e =
    let sources = s ∷ rest in
    let parts = and_parts (nat_lt 0 (length sources) && nat_le (length sources) 9) (list_all (λ (f : SourceLines). list_all (is_clean sources) f.lines) (all_sources names sources is_all)) e in
    let few = leb-true (length sources) 9 (and_parts (nat_lt 0 (length sources)) (nat_le (length sources) 9) parts.0).1 in
    let clean = λ (i : ℕ) (within : i < length sources). clean_files names sources is_all 0 sources parts.1 i i (omega arith) within in
    let free = below_free names sources few clean 8 (omega arith) 0 (omega arith) (omega arith) in
    let first = first_named s rest in
    let known : nat_lt (source_named sources s.name) (length sources) ≡ true = lt-ltb (source_named sources s.name) (length sources) (omega (arith, first)) in
    rw known (ap (λ n. take 1000 (filter_map (fault_of names sources) (take max_lines (visits sources n)))) first ∙ ap (take 1000) (take_none (fault_of names sources) max_lines (visits_below sources 8 0) free))
