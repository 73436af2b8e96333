-- Sources whose faulty lines are rewritten or left empty are read like the original ones, except
-- for these lines.
use Rattle.std.proofs.Common.{◌≡◌, ◌<◌, ◌+◌, ◌-◌, ℕ, zero, suc, Bool, true, false, not, List, [], ◌∷◌, ◌++◌, length, map, flat_map, get_or, cond, refl, sym, ◌∙◌, ap, ap₂, arith, nat_lt, ltb-true}
use Rattle.std.specs.Prelude.{Option, Some, None, unwrap_or, Result, Ok, Err, bytes_eq}
use Rattle.std.specs.List.{cons_option, filter_map}
use Rattle.std.specs.Option.{option_map_or}
use Rattle.std.specs.Result.{result_err}
use Rattle.std.specs.Str.{is_utf8}
use Rattle.std.proofs.lemmas.Str.{IsUtf8-nil, is_utf8-from_IsUtf8}
use Rattle.std.proofs.lemmas.List.{map-append}
use Rattle.std.proofs.lemmas.Option.{same_Some}
use Rattle.compose_text.specs.Results.{◌>>=◌}
use Rattle.keysym_core.specs.Names.{KeysymNames, value}
use Rattle.compose_lex.specs.Line.{Reading, blank, include, production}
use Rattle.compose_lex.specs.Fault.{reading_of}
use Rattle.compose_lex.specs.Escape.{text_of}
use Rattle.compose_lex.specs.declared.LexFault.{LexFault}
use Rattle.compose_model.specs.Table.{Definition}
use Rattle.compose_read.specs.Kept.{definitions_in, given}
use Rattle.compose_read.specs.Lines.{Source, Visit, included, included_by, max_depth, numbered, own_lines, source_lines, source_named, visits, visits_below}
use Rattle.compose_read.specs.Read.{at_line, event_keysym, definition_of, definitions_of, include_fault, line_result, read_on, result_text, reading_result, sequence_of, string_text}
use Rattle.compose_read.specs.declared.ReadFault.{ReadFault}
use Rattle.compose_read.specs.declared.ReadFault.TheVariants.{NotUtf8, MissingRoot, MissingInclude, IncludeDepth}
use Rattle.compose_read.proofs.Faultless.{read_to_end}
use Rattle.compose_skip.specs.Faulty.{AreOthers, AreOthersFrom, fault_left, kept_line, left_fault, line_without, lines_in, own, own_fault, own_faults, own_faults_from}
use Rattle.compose_skip.specs.Left.{kept_visit, other_definitions, other_result, result_or}
use Rattle.compose_skip.specs.Libxkbcommon.{read_by_libxkbcommon, rewritten}
use Rattle.compose_skip.proofs.Rewritten.{is_rewritten, not_rewritten}

-- ---- a line has its own fault wherever it is read

abbrev deeper : Visit → ℕ → Visit
deeper v depth = record { source = v.source; line = v.line; bytes = v.bytes; depth = depth }

same_event : (v : Visit) (depth index : ℕ) (found : Option ℕ) → event_keysym (deeper v depth) index found ≡ event_keysym v index found
same_event v depth index None = refl
same_event v depth index (Some k) = refl

same_sequence : (names : KeysymNames) (v : Visit) (depth index : ℕ) (events : List (List ℕ)) → sequence_of names (deeper v depth) index events ≡ sequence_of names v index events
same_sequence names v depth index [] = refl
same_sequence names v depth index (event ∷ events) =
    ap₂ (λ e s. e >>= (λ k. s >>= (λ ks. let r : Result (List ℕ) ReadFault = Ok (k ∷ ks) in r))) (same_event v depth index (value names event)) (same_sequence names v depth (1 + index) events)

same_at : {A : Type 0} (v : Visit) (depth : ℕ) (r : Result A LexFault) → at_line (deeper v depth) r ≡ at_line v r
same_at v depth (Ok x) = refl
same_at v depth (Err e) = refl

same_string : (v : Visit) (depth : ℕ) (raw : Option (List ℕ)) → string_text (deeper v depth) raw ≡ string_text v raw
same_string v depth None = refl
same_string v depth (Some raw) = ap (λ r. r >>= (λ text. let o : Result (Option (List ℕ)) ReadFault = Ok (Some text) in o)) (same_at v depth (text_of raw))

same_result : (names : KeysymNames) (v : Visit) (depth events : ℕ) (name : Option (List ℕ)) → result_text names (deeper v depth) events name ≡ result_text names v events name
same_result names v depth events None = refl
same_result names v depth events (Some name) = refl

same_definition : (names : KeysymNames) (v : Visit) (depth : ℕ) (events : List (List ℕ)) (raw name : Option (List ℕ))
    → definition_of names (deeper v depth) events raw name ≡ definition_of names v events raw name
same_definition names v depth events raw name =
    let put : List ℕ → Option (List ℕ) → List ℕ → Result Definition ReadFault = λ sequence string other. Ok (record { sequence = sequence; text = option_map_or (λ s. s) string other }) in
    ap (λ r. r >>= (λ sequence. string_text (deeper v depth) raw >>= (λ string. result_text names (deeper v depth) (length events) name >>= (λ other. put sequence string other))))
    (same_sequence names v depth 0 events)
    ∙ ap₂ (λ s t. sequence_of names v 0 events >>= (λ sequence. s >>= (λ string. t >>= (λ other. put sequence string other)))) (same_string v depth raw)
    (same_result names v depth (length events) name)

same_own : (names : KeysymNames) (v : Visit) (depth : ℕ) → own_fault names (deeper v depth) ≡ own_fault names v
same_own names v depth = ap (λ f. own (result_err (cond (is_utf8 v.bytes) f (Err (NotUtf8 v.source v.line))))) refl ∙ go (is_utf8 v.bytes) (reading_of v.bytes)
  where
    go : (utf8 : Bool) (r : Result Reading LexFault) → own (result_err (cond utf8 (at_line (deeper v depth) r >>= reading_result names [] (deeper v depth)) (Err (NotUtf8 v.source v.line))))
        ≡ own (result_err (cond utf8 (at_line v r >>= reading_result names [] v) (Err (NotUtf8 v.source v.line))))
    go false r = refl
    go true (Err e) = refl
    go true (Ok blank) = refl
    go true (Ok (include name)) = refl
    go true (Ok (production events raw name)) =
        ap (λ d. own (result_err (d >>= (λ d. let o : Result (Option Definition) ReadFault = Ok (Some d) in o)))) (same_definition names v depth events raw name)

same_kept : (names : KeysymNames) (v : Visit) (depth : ℕ) → kept_line names (deeper v depth) ≡ kept_line names v
same_kept names v depth = ap (line_without names v.bytes) (same_own names v depth)

-- the lines of a source, each as it is kept
numbered_kept : (names : KeysymNames) (source depth number : ℕ) (lines : List (List ℕ))
    → numbered source depth number (map (kept_line names) (numbered source 0 number lines)) ≡ map (kept_visit names) (numbered source depth number lines)
numbered_kept names source depth number [] = refl
numbered_kept names source depth number (line ∷ lines) =
    let v : Visit = record { source = source; line = number; bytes = line; depth = depth } in
    ap₂ (λ bytes vs. let v : Visit = record { source = source; line = number; bytes = bytes; depth = depth } in v ∷ vs) (same_kept names v 0) (numbered_kept names source depth (1 + number) lines)

-- ---- an empty line defines nothing

empty_is_text : is_utf8 [] ≡ true
empty_is_text = is_utf8-from_IsUtf8 [] IsUtf8-nil

empty_result : (names : KeysymNames) (sources : List Source) (source line depth : ℕ)
    → line_result names sources (record { source = source; line = line; bytes = []; depth = depth }) ≡ Ok None
empty_result names sources source line depth = ap (λ b. let g : Result (Option Definition) ReadFault = cond b (Ok None) (Err (NotUtf8 source line)) in g) empty_is_text

empty_includes : (sources : List Source) → included sources [] ≡ None
empty_includes sources = ap (λ b. let o : Option ℕ = cond b None None in o) empty_is_text

-- ---- names

same_named : (names : KeysymNames) (index : ℕ) (sources others : List Source) (name : List ℕ) → AreOthersFrom names index sources others → source_named others name ≡ source_named sources name
same_named names index [] [] name are = refl
same_named names index [] (o ∷ others) name are = absurd are
same_named names index (s ∷ sources) [] name are = absurd are
same_named names index (s ∷ sources) (o ∷ others) name are =
    ap₂ (λ n k. let p : ℕ = cond (not (bytes_eq name n)) (1 + k) 0 in p) are.0 (same_named names (1 + index) sources others name are.2)

same_count : (names : KeysymNames) (index : ℕ) (sources others : List Source) → AreOthersFrom names index sources others → length others ≡ length sources
same_count names index [] [] are = refl
same_count names index [] (o ∷ others) are = absurd are
same_count names index (s ∷ sources) [] are = absurd are
same_count names index (s ∷ sources) (o ∷ others) are = ap suc (same_count names (1 + index) sources others are.2)

-- the lines of the source with this index
same_lines : (names : KeysymNames) (index at : ℕ) (sources others : List Source) (d : Source) → AreOthersFrom names index sources others → at < length sources
    → source_lines (get_or others at d).bytes ≡ map (kept_line names) (lines_in (index + at) (get_or sources at d).bytes)
same_lines names index at [] others d are within = absurd (omega (arith, within))
same_lines names index at (s ∷ sources) [] d are within = absurd are
same_lines names index zero (s ∷ sources) (o ∷ others) d are within =
    let here : index ≡ index + 0 = omega arith in are.1 ∙ ap (λ n. map (kept_line names) (lines_in n s.bytes)) here
same_lines names index (suc at) (s ∷ sources) (o ∷ others) d are within =
    let next : 1 + index + at ≡ index + suc at = omega arith in
    same_lines names (1 + index) at sources others d are.2 (omega (arith, within)) ∙ ap (λ n. map (kept_line names) (lines_in n (get_or sources at d).bytes)) next

module _ (names : KeysymNames) (sources others : List Source) (are : AreOthers names sources others) where
  -- ---- the result of a line

  same_include : (v : Visit) (name : List ℕ) → include_fault others v name ≡ include_fault sources v name
  same_include v name =
      ap₂ (λ i n. let r : Result (Option Definition) ReadFault = cond (not (nat_lt i n)) (Err (MissingInclude v.source v.line)) (cond (nat_lt v.depth max_depth) (Ok None) (Err (IncludeDepth v.source v.line))) in r)
      (same_named names 0 sources others name are) (same_count names 0 sources others are)

  pub same_line : (v : Visit) → line_result names others v ≡ line_result names sources v
  same_line v = ap (λ r. let g : Result (Option Definition) ReadFault = cond (is_utf8 v.bytes) r (Err (NotUtf8 v.source v.line)) in g) (go (reading_of v.bytes))
    where
      go : (r : Result Reading LexFault) → (at_line v r >>= reading_result names others v) ≡ (at_line v r >>= reading_result names sources v)
      go (Err e) = refl
      go (Ok blank) = refl
      go (Ok (include name)) = same_include v name
      go (Ok (production events raw name)) = refl

  by_rewritten : (v : Visit) (o : Option (List ℕ)) → rewritten names v.bytes ≡ o
      → line_result names others (record { source = v.source; line = v.line; bytes = unwrap_or o []; depth = v.depth }) ≡ Ok (read_by_libxkbcommon names v.bytes)
  by_rewritten v None e =
      empty_result names others v.source v.line v.depth ∙ ap (λ d. let r : Result (Option Definition) ReadFault = Ok d in r) (sym (not_rewritten names v.bytes e))
  by_rewritten v (Some written) e =
      (is_rewritten names v.bytes written e).result others (record { source = v.source; line = v.line; bytes = written; depth = v.depth }) refl

  -- a line without a fault has the same result as before, and another one what libxkbcommon reads
  -- in it
  pub kept_result : (v : Visit) → line_result names others (kept_visit names v) ≡ other_result names sources v
  kept_result v = go (own_fault names v)
    where
      go : (fault : Option ReadFault)
          → line_result names others (record { source = v.source; line = v.line; bytes = line_without names v.bytes fault; depth = v.depth }) ≡ result_or names v fault (line_result names sources v)
      go None = same_line v
      go (Some fault) = by_rewritten v (rewritten names v.bytes) refl

  -- ---- what a line includes

  included_same : (name : List ℕ) → included_by others (Ok (include name)) ≡ included_by sources (Ok (include name))
  included_same name =
      ap₂ (λ i n. let o : Option ℕ = cond (nat_lt i n) (Some i) None in o) (same_named names 0 sources others name are) (same_count names 0 sources others are)

  included_line : (bytes : List ℕ) → included others bytes ≡ included sources bytes
  included_line bytes = ap (λ o. let i : Option ℕ = cond (is_utf8 bytes) o None in i) (go (reading_of bytes))
    where
      go : (r : Result Reading LexFault) → included_by others r ≡ included_by sources r
      go (Err e) = refl
      go (Ok blank) = refl
      go (Ok (include name)) = included_same name
      go (Ok (production events raw name)) = refl

  faulty_includes_none : (v : Visit) (fault : ReadFault) → own_fault names v ≡ Some fault → included sources v.bytes ≡ None
  faulty_includes_none v fault h = go (is_utf8 v.bytes) (reading_of v.bytes) h
    where
      go : (utf8 : Bool) (r : Result Reading LexFault) → own (result_err (cond utf8 (at_line v r >>= reading_result names [] v) (Err (NotUtf8 v.source v.line)))) ≡ Some fault
          → cond utf8 (included_by sources r) None ≡ None
      go false r h = refl
      go true (Err e) h = refl
      go true (Ok blank) h = refl
      go true (Ok (include name)) h = cc
      go true (Ok (production events raw name)) h = refl

  rewritten_includes : (line : List ℕ) (o : Option (List ℕ)) → rewritten names line ≡ o → included others (unwrap_or o []) ≡ None
  rewritten_includes line None e = empty_includes others
  rewritten_includes line (Some written) e =
      let r = is_rewritten names line written e in
      ap (λ b. let i : Option ℕ = cond b (included_by others (reading_of written)) None in i) r.utf8 ∙ ap (included_by others) r.reading

  kept_includes : (v : Visit) → included others (kept_line names v) ≡ included sources v.bytes
  kept_includes v = go (own_fault names v) refl
    where
      go : (fault : Option ReadFault) → own_fault names v ≡ fault → included others (line_without names v.bytes fault) ≡ included sources v.bytes
      go None e = included_line v.bytes
      go (Some fault) e = rewritten_includes v.bytes (rewritten names v.bytes) refl ∙ sym (faulty_includes_none v fault e)

  -- ---- all lines

  own_kept : (source depth : ℕ) → source < length sources → own_lines others source depth ≡ map (kept_visit names) (own_lines sources source depth)
  own_kept source depth within =
      let here : 0 + source ≡ source = omega arith in
      ap (numbered source depth 1) (same_lines names 0 source sources others (record { name = []; bytes = [] }) are within
      ∙ ap (λ n. map (kept_line names) (lines_in n (get_or sources source (record { name = []; bytes = [] })).bytes)) here)
      ∙ numbered_kept names source depth 1 (source_lines (get_or sources source (record { name = []; bytes = [] })).bytes)

  below_kept : (left : ℕ) (below : (source : ℕ) → source < length sources → visits_below others left source ≡ map (kept_visit names) (visits_below sources left source)) (o : Option ℕ)
      → ((s : ℕ) → o ≡ Some s → s < length sources)
      → option_map_or (visits_below others left) o [] ≡ map (kept_visit names) (option_map_or (visits_below sources left) o [])
  below_kept left below None within = refl
  below_kept left below (Some s) within = below s (within s refl)

  included_within : (bytes : List ℕ) (s : ℕ) → included sources bytes ≡ Some s → s < length sources
  included_within bytes s h = go (is_utf8 bytes) (reading_of bytes) h
    where
      named : (name : List ℕ) (few : Bool) → nat_lt (source_named sources name) (length sources) ≡ few → cond few (Some (source_named sources name)) None ≡ Some s → s < length sources
      named name true e h = omega (arith, ltb-true (source_named sources name) (length sources) e, same_Some (source_named sources name) s h)
      named name false e h = cc

      go : (utf8 : Bool) (r : Result Reading LexFault) → cond utf8 (included_by sources r) None ≡ Some s → s < length sources
      go false r h = cc
      go true (Err e) h = cc
      go true (Ok blank) h = cc
      go true (Ok (include name)) h = named name (nat_lt (source_named sources name) (length sources)) refl h
      go true (Ok (production events raw name)) h = cc

  each_kept : (left : ℕ) (below : (source : ℕ) → source < length sources → visits_below others left source ≡ map (kept_visit names) (visits_below sources left source)) (vs : List Visit)
      → flat_map (λ v. v ∷ option_map_or (visits_below others left) (included others v.bytes) []) (map (kept_visit names) vs)
      ≡ map (kept_visit names) (flat_map (λ v. v ∷ option_map_or (visits_below sources left) (included sources v.bytes) []) vs)
  each_kept left below [] = refl
  each_kept left below (v ∷ vs) =
      ap (λ o. kept_visit names v ∷ (option_map_or (visits_below others left) o []
      ++ flat_map (λ v. v ∷ option_map_or (visits_below others left) (included others v.bytes) []) (map (kept_visit names) vs))) (kept_includes v)
      ∙ ap₂ (λ xs ys. kept_visit names v ∷ (xs ++ ys)) (below_kept left below (included sources v.bytes) (λ s h. included_within v.bytes s h)) (each_kept left below vs)
      ∙ ap (λ xs. kept_visit names v ∷ xs) (sym (map-append (kept_visit names) (option_map_or (visits_below sources left) (included sources v.bytes) [])
      (flat_map (λ v. v ∷ option_map_or (visits_below sources left) (included sources v.bytes) []) vs)))

  visits_kept : (left source : ℕ) → source < length sources → visits_below others left source ≡ map (kept_visit names) (visits_below sources left source)
  visits_kept zero source within = own_kept source max_depth within
  visits_kept (suc left) source within =
      ap (flat_map (λ v. v ∷ option_map_or (visits_below others left) (included others v.bytes) [])) (own_kept source (max_depth - suc left) within)
      ∙ each_kept left (visits_kept left) (own_lines sources source (max_depth - suc left))

  -- ---- the definitions

  given_kept : (vs : List Visit) → given names others (map (kept_visit names) vs) ≡ flat_map (λ v. definitions_in (other_result names sources v)) vs
  given_kept [] = refl
  given_kept (v ∷ vs) = ap₂ (λ r ds. definitions_in r ++ ds) (kept_result v) (given_kept vs)

  pub table_of_others : (root : List ℕ) (table : List Definition) → definitions_of names others root ≡ Ok table → table ≡ other_definitions names sources root
  table_of_others root table h = go (nat_lt (source_named others root) (length others)) refl h
    where
      go : (few : Bool) → nat_lt (source_named others root) (length others) ≡ few
          → cond few (read_on names others 0 0 (visits others (source_named others root))) (Err MissingRoot) ≡ Ok table → table ≡ other_definitions names sources root
      go false e h = cc
      go true e h =
          let within : source_named sources root < length sources =
          ltb-true (source_named sources root) (length sources)
          (ap₂ nat_lt (sym (same_named names 0 sources others root are)) (sym (same_count names 0 sources others are)) ∙ e) in
          (read_to_end names others (visits others (source_named others root)) 0 0 table h).1
          ∙ ap (λ s. given names others (visits others s)) (same_named names 0 sources others root are)
          ∙ ap (given names others) (visits_kept max_depth (source_named sources root) within)
          ∙ given_kept (visits sources (source_named sources root))

-- ---- no line is faulty any longer

pub kept_is_right : (names : KeysymNames) (v : Visit) → own_fault names (kept_visit names v) ≡ None
kept_is_right names v = go (own_fault names v) refl
  where
    by_written : (o : Option (List ℕ)) → rewritten names v.bytes ≡ o → own_fault names (record { source = v.source; line = v.line; bytes = unwrap_or o []; depth = v.depth }) ≡ None
    by_written None e = ap (λ r. own (result_err r)) (empty_result names [] v.source v.line v.depth)
    by_written (Some written) e =
        ap (λ r. own (result_err r)) ((is_rewritten names v.bytes written e).result [] (record { source = v.source; line = v.line; bytes = written; depth = v.depth }) refl)

    go : (fault : Option ReadFault) → own_fault names v ≡ fault
        → own_fault names (record { source = v.source; line = v.line; bytes = line_without names v.bytes fault; depth = v.depth }) ≡ None
    go None e = e
    go (Some fault) e = by_written (rewritten names v.bytes) refl

kept_is_left : (names : KeysymNames) (v : Visit) → left_fault names (kept_visit names v) ≡ None
kept_is_left names v = ap (fault_left names (kept_line names v)) (kept_is_right names v)

none_in : (names : KeysymNames) (vs : List Visit) → filter_map (left_fault names) (map (kept_visit names) vs) ≡ []
none_in names [] = refl
none_in names (v ∷ vs) = ap₂ (λ o fs. cons_option o fs) (kept_is_left names v) (none_in names vs)

none_from : (names : KeysymNames) (index : ℕ) (sources others : List Source) → AreOthersFrom names index sources others → own_faults_from names index others ≡ []
none_from names index [] [] are = refl
none_from names index [] (o ∷ others) are = absurd are
none_from names index (s ∷ sources) [] are = absurd are
none_from names index (s ∷ sources) (o ∷ others) are =
    ap₂ (λ lines fs. filter_map (left_fault names) (numbered index 0 1 lines) ++ fs) are.1 (none_from names (1 + index) sources others are.2)
    ∙ ap (λ vs. filter_map (left_fault names) vs ++ []) (numbered_kept names index 0 1 (source_lines s.bytes))
    ∙ ap (λ fs. fs ++ []) (none_in names (lines_in index s.bytes))

pub none_faulty : (names : KeysymNames) (sources others : List Source) → AreOthers names sources others → own_faults names others ≡ []
none_faulty names sources others are = none_from names 0 sources others are
