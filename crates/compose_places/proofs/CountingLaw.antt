-- Each sequence of a table has a line that counts, whose keys it is.
use Rattle.std.proofs.Common.{◌≡◌, ℕ, ◌+◌, List, [], ◌∷◌, Bool, true, false, cond, not, ◌&&◌, ◌||◌, ◌⊎◌, length, map, take, nat_lt, nat_le, refl, sym, ◌∙◌, ap, ap₂, inl, inr}
use Rattle.std.specs.Prelude.{Option, Some, None, is_some, unwrap_or, Result, Ok, Err, filter}
use Rattle.std.specs.Option.{option_or, option_map, option_map_or, option_and_then}
use Rattle.std.specs.List.{list_any}
use Rattle.std.specs.Str.{is_utf8}
use Rattle.std.proofs.lemmas.Bool.{or_cases, or_left, or_right}
use Rattle.std.proofs.lemmas.Option.{same_Some}
use Rattle.compose_text.specs.Results.{◌>>=◌}
use Rattle.keysym_core.specs.Keysym.{is_ignored}
use Rattle.keysym_core.specs.Names.{KeysymNames, value}
use Rattle.compose_model.specs.Table.{Definition, same, is_sequence, is_extended, longest}
use Rattle.compose_model.specs.Nodes.{leaves, nodes}
use Rattle.compose_model.specs.declared.Rule.{Rule}
use Rattle.compose_model.specs.declared.Rule.TheVariants.{Refuse, Longest}
use Rattle.compose_model.proofs.NodeLemmas.{same_is, same_from}
use Rattle.compose_lex.specs.Line.{Reading, blank, include, production}
use Rattle.compose_lex.specs.Fault.{reading_of}
use Rattle.compose_lex.specs.declared.LexFault.{LexFault}
use Rattle.compose_read.specs.Lines.{Source, Visit, source_named, visits, max_depth}
use Rattle.compose_read.specs.Read.{at_line, reading_result, line_result, event_keysym, sequence_of, string_text, result_text, definitions_of, max_lines}
use Rattle.compose_read.specs.Settle.{row, in_order, settled, overlap, or_overlap, Overlap}
use Rattle.compose_read.specs.declared.ReadFault.{ReadFault}
use Rattle.compose_read.specs.declared.ReadFault.TheVariants as faults
use Rattle.compose_tree.specs.TableReturns.{too_many_nodes, bounded, settled_by, table_of}
use Rattle.compose_tree.specs.Targets.{max_nodes}
use Rattle.compose_tree.proofs.Steps.{leaf_means}
use Rattle.compose_places.specs.Events.{line_events, events_of}
use Rattle.compose_places.specs.Places.{is_production, is_definition_line, definition_lines}
use Rattle.compose_places.specs.Counting.{WrittenLine, sequence_named, defined_sequence, defines, begun_lines, written_line, read_lines, counting_line, AreLines}
use Rattle.compose_places.proofs.Decided.{definition_lines_exact}
use Rattle.compose_places.proofs.BegunLines.{begun_lines_exact}

same_Ok : {A E : Type 0} (x y : A) → (let r : Result A E = Ok x in r) ≡ Ok y → x ≡ y
same_Ok x y h = cc

module _ (names : KeysymNames) (sources : List Source) where
  -- ---- a line that gives a definition

  keysym_read : (v : Visit) (index : ℕ) (o : Option ℕ) (k : ℕ) → event_keysym v index o ≡ Ok k → o ≡ Some k
  keysym_read v index None k h = cc
  keysym_read v index (Some j) k h = go (is_ignored j) h
    where
      go : (b : Bool) → cond b (Err (faults.IgnoredKeysym v.source v.line index)) (Ok j) ≡ Ok k → Some j ≡ Some k
      go true h = cc
      go false h = cc

  sequence_read : (v : Visit) (index : ℕ) (events : List (List ℕ)) (s : List ℕ) → sequence_of names v index events ≡ Ok s → sequence_named names events ≡ Some s
  sequence_read v index [] s h = cc
  sequence_read v index (event ∷ events) s h = by_keysym (λ i t g. sequence_read v i events t g) (event_keysym v index (value names event)) refl h
    where
      by_others : (k : ℕ) → value names event ≡ Some k → (r : Result (List ℕ) ReadFault) → ((t : List ℕ) → r ≡ Ok t → sequence_named names events ≡ Some t)
          → (r >>= (λ sequence. let x : Result (List ℕ) ReadFault = Ok (k ∷ sequence) in x)) ≡ Ok s → sequence_named names (event ∷ events) ≡ Some s
      by_others k e (Err f) others h = cc
      by_others k e (Ok more) others h =
          ap₂ (λ o m. option_and_then (λ j. option_map (λ t. j ∷ t) m) o) e (others more refl) ∙ ap Some (same_Ok (k ∷ more) s h)

      by_keysym : ((i : ℕ) (t : List ℕ) → sequence_of names v i events ≡ Ok t → sequence_named names events ≡ Some t) → (r : Result ℕ ReadFault) → event_keysym v index (value names event) ≡ r
          → (r >>= (λ k. sequence_of names v (1 + index) events >>= (λ sequence. let x : Result (List ℕ) ReadFault = Ok (k ∷ sequence) in x))) ≡ Ok s → sequence_named names (event ∷ events) ≡ Some s
      by_keysym others (Err f) e h = cc
      by_keysym others (Ok k) e h = by_others k (keysym_read v index (value names event) k e) (sequence_of names v (1 + index) events) (others (1 + index)) h

  module _ (v : Visit) (d : Definition) where
    abbrev found : Definition → Result (Option Definition) ReadFault
    found e = Ok (Some e)

    abbrev with_text : List ℕ → Option (List ℕ) → List ℕ → Result Definition ReadFault
    with_text s string other = Ok (record { sequence = s; text = option_map_or (λ u. u) string other })

    include_alone : (missing room : Bool)
        → (let r : Result (Option Definition) ReadFault = cond missing (Err (faults.MissingInclude v.source v.line)) (cond room (Ok None) (Err (faults.IncludeDepth v.source v.line))) in
        r) ≡ Ok (Some d) → ⊥
    include_alone true room h = cc
    include_alone false true h = cc
    include_alone false false h = cc

    by_result : (s : List ℕ) (t : Option (List ℕ)) (r : Result (List ℕ) ReadFault) → (r >>= with_text s t >>= found) ≡ Ok (Some d) → s ≡ d.sequence
    by_result s t (Err f) h = cc
    by_result s t (Ok other) h = cc

    module _ (events : List (List ℕ)) (raw name : Option (List ℕ)) where
      by_string : (s : List ℕ) (r : Result (Option (List ℕ)) ReadFault)
          → (r >>= (λ string. result_text names v (length events) name >>= with_text s string) >>= found) ≡ Ok (Some d) → s ≡ d.sequence
      by_string s (Err f) h = cc
      by_string s (Ok string) h = by_result s string (result_text names v (length events) name) h

      by_sequence : (r : Result (List ℕ) ReadFault) → sequence_of names v 0 events ≡ r
          → (r >>= (λ s. string_text v raw >>= (λ string. result_text names v (length events) name >>= with_text s string)) >>= found) ≡ Ok (Some d) → sequence_named names events ≡ Some d.sequence
      by_sequence (Err f) e h = cc
      by_sequence (Ok s) e h = sequence_read v 0 events s e ∙ ap Some (by_string s (string_text v raw) h)

    by_text : (text : Bool) (r : Result Reading LexFault) → cond text (at_line v r >>= reading_result names sources v) (Err (faults.NotUtf8 v.source v.line)) ≡ Ok (Some d)
        → option_and_then (sequence_named names) (cond text (events_of r) None) ≡ Some d.sequence
    by_text false r h = cc
    by_text true (Err e) h = cc
    by_text true (Ok blank) h = cc
    by_text true (Ok (include name)) h = absurd (include_alone (not (nat_lt (source_named sources name) (length sources))) (nat_lt v.depth max_depth) h)
    by_text true (Ok (production events raw name)) h = by_sequence events raw name (sequence_of names v 0 events) refl h

    -- the keys written on it are its sequence
    gives_sequence : line_result names sources v ≡ Ok (Some d) → option_and_then (sequence_named names) (line_events v.bytes) ≡ Some d.sequence
    gives_sequence h = by_text (is_utf8 v.bytes) (reading_of v.bytes) h

  -- ---- lines

  abbrev each : List Definition → List (Result (Option Definition) ReadFault)
  each table = map (λ d. Ok (Some d)) table

  heads : {X : Type 0} (x y : X) (xs ys : List X) → x ∷ xs ≡ y ∷ ys → (x ≡ y) × (xs ≡ ys)
  heads x y xs ys h = (cc, cc)

  defines_as : (v : Visit) (d : Definition) → line_result names sources v ≡ Ok (Some d) → (s : List ℕ) → defines names s v.bytes ≡ same s d.sequence
  defines_as v d h s = ap (λ o. option_map_or (same s) o false) (gives_sequence v d h)

  -- of lines that each give a definition, one counts for each of their sequences
  some_line : (vs : List Visit) (ds : List Definition) → map (line_result names sources) vs ≡ each ds → (s : List ℕ) → is_sequence ds s ≡ true → is_some (counting_line names vs s) ≡ true
  some_line [] [] h s e = cc
  some_line [] (d ∷ ds) h s e = cc
  some_line (v ∷ vs) [] h s e = cc
  some_line (v ∷ vs) (d ∷ ds) h s e = go (counting_line names vs s) (λ f. some_line vs ds parts.1 s f) (or_cases (same s d.sequence) (is_sequence ds s) e)
    where
      parts : (line_result names sources v ≡ Ok (Some d)) × (map (line_result names sources) vs ≡ each ds)
      parts = heads (line_result names sources v) (Ok (Some d)) (map (line_result names sources) vs) (each ds) h

      here : same s d.sequence ≡ true → cond (defines names s v.bytes) (Some (written_line v)) None ≡ Some (written_line v)
      here f = ap (λ b. cond b (Some (written_line v)) None) (defines_as v d parts.0 s ∙ f)

      go : (o : Option WrittenLine) → (is_sequence ds s ≡ true → is_some o ≡ true) → (same s d.sequence ≡ true) ⊎ (is_sequence ds s ≡ true)
          → is_some (option_or o (cond (defines names s v.bytes) (Some (written_line v)) None)) ≡ true
      go (Some l) later c = refl
      go None later (inl f) = ap (λ x. is_some x) (here f)
      go None later (inr f) = absurd (let clash : false ≡ true = later f in cc)

  -- the line that counts defines the sequence
  module _ (s : List ℕ) where
    right_keysyms : (r : Option (List ℕ)) → option_map_or (same s) r false ≡ true → r ≡ Some s
    right_keysyms None h = cc
    right_keysyms (Some t) h = ap Some (sym (same_is s t h))

    right_line : (o : Option (List (List ℕ))) → option_map_or (same s) (option_and_then (sequence_named names) o) false ≡ true → sequence_named names (unwrap_or o []) ≡ Some s
    right_line None h = cc
    right_line (Some keys) h = right_keysyms (sequence_named names keys) h

    right_keys : (vs : List Visit) (l : WrittenLine) → counting_line names vs s ≡ Some l → sequence_named names l.keys ≡ Some s
    right_keys [] l h = cc
    right_keys (v ∷ vs) l h = go (counting_line names vs s) (right_keys vs) (defines names s v.bytes) refl h
      where
        go : (o : Option WrittenLine) → ((m : WrittenLine) → o ≡ Some m → sequence_named names m.keys ≡ Some s) → (b : Bool) → defines names s v.bytes ≡ b
            → option_or o (cond b (Some (written_line v)) None) ≡ Some l → sequence_named names l.keys ≡ Some s
        go (Some m) later b e h = later l h
        go None later true e h = ap (λ (x : WrittenLine). sequence_named names x.keys) (sym (same_Some (written_line v) l h)) ∙ right_line (line_events v.bytes) e
        go None later false e h = cc

    -- lines that define nothing count for nothing
    not_definition : (bytes : List ℕ) → is_definition_line bytes ≡ false → defines names s bytes ≡ false
    not_definition bytes h = go (is_utf8 bytes) (reading_of bytes) h
      where
        go : (text : Bool) (r : Result Reading LexFault) → text && is_production r ≡ false
            → option_map_or (same s) (option_and_then (sequence_named names) (cond text (events_of r) None)) false ≡ false
        go false r h = refl
        go true (Err e) h = refl
        go true (Ok blank) h = refl
        go true (Ok (include name)) h = refl
        go true (Ok (production events raw name)) h = cc

    nothing_else : (o : Option WrittenLine) → option_or o None ≡ o
    nothing_else None = refl
    nothing_else (Some l) = refl

    definitions_alone : (vs : List Visit) → counting_line names (filter (λ v. is_definition_line v.bytes) vs) s ≡ counting_line names vs s
    definitions_alone [] = refl
    definitions_alone (v ∷ vs) = go (is_definition_line v.bytes) refl (definitions_alone vs)
      where
        go : (says : Bool) → is_definition_line v.bytes ≡ says → counting_line names (filter (λ v. is_definition_line v.bytes) vs) s ≡ counting_line names vs s
            → counting_line names (cond says (v ∷ filter (λ v. is_definition_line v.bytes) vs) (filter (λ v. is_definition_line v.bytes) vs)) s ≡ counting_line names (v ∷ vs) s
        go true e h = ap (λ o. option_or o (cond (defines names s v.bytes) (Some (written_line v)) None)) h
        go false e h =
            h ∙ sym (nothing_else (counting_line names vs s))
            ∙ ap (λ b. option_or (counting_line names vs s) (cond b (Some (written_line v)) None)) (sym (not_definition v.bytes e))

  -- of the lines that are read, the definitions alone count
  same_lines : (root s : List ℕ) → counting_line names (definition_lines sources root) s ≡ counting_line names (read_lines sources root) s
  same_lines root s = go (nat_lt (source_named sources root) (length sources))
    where
      all : List Visit
      all = take max_lines (visits sources (source_named sources root))

      go : (there : Bool) → counting_line names (cond there (filter (λ v. is_definition_line v.bytes) all) []) s ≡ counting_line names (cond there all []) s
      go true = definitions_alone s all
      go false = refl

  -- ---- settling

  any_filtered : {X : Type 0} (p q : X → Bool) (xs : List X) → list_any p (filter q xs) ≡ true → list_any p xs ≡ true
  any_filtered p q [] h = cc
  any_filtered p q (x ∷ xs) h = go (any_filtered p q xs) (q x) h
    where
      go : (list_any p (filter q xs) ≡ true → list_any p xs ≡ true) → (b : Bool) → list_any p (cond b (x ∷ filter q xs) (filter q xs)) ≡ true → list_any p (x ∷ xs) ≡ true
      go others true h = elim (or_cases (p x) (list_any p (filter q xs)) h) [ inl e ↦ or_left (p x) (list_any p xs) e | inr e ↦ or_right (p x) (list_any p xs) (others e) ]
      go others false h = or_right (p x) (list_any p xs) (others h)

  in_order_same : (table : List Definition) (s : List ℕ) → is_sequence (in_order table) s ≡ is_sequence table s
  in_order_same table s = go (leaves table) ∙ leaf_means table s
    where
      go : (xs : List (List ℕ)) → is_sequence (map (row table) xs) s ≡ list_any (same s) xs
      go [] = refl
      go (x ∷ xs) = ap (λ b. same s x || b) (go xs)

  settled_from : (rule : Rule) (ds rows : List Definition) (s : List ℕ) → settled rule ds ≡ Ok rows → is_sequence rows s ≡ true → is_sequence ds s ≡ true
  settled_from Refuse ds rows s h e = go (overlap ds) h
    where
      go : (o : Option Overlap) → or_overlap o (in_order ds) ≡ Ok rows → is_sequence ds s ≡ true
      go (Some o) h = cc
      go None h = sym (in_order_same ds s) ∙ ap (λ (t : List Definition). is_sequence t s) (same_Ok (in_order ds) rows h) ∙ e
  settled_from Longest ds rows s h e =
      any_filtered (λ (d : Definition). same s d.sequence) (λ d. not (is_extended ds d.sequence)) ds
      (sym (in_order_same (longest ds) s) ∙ ap (λ (t : List Definition). is_sequence t s) (same_Ok (in_order (longest ds)) rows h) ∙ e)

  -- ---- a table that is read

  module _ (root : List ℕ) (rule : Rule) (table : List Definition) (read : table_of names sources root rule ≡ Ok table) (s : List ℕ) (there : is_sequence table s ≡ true) where
    counts : is_some (counting_line names (definition_lines sources root) s) ≡ true
    counts = by_definitions (definitions_of names sources root) refl read
      where
        by_size : (ds rows : List Definition) → definitions_of names sources root ≡ Ok ds → settled rule ds ≡ Ok rows → (few : Bool) → cond few (Ok rows) (Err too_many_nodes) ≡ Ok table
            → is_some (counting_line names (definition_lines sources root) s) ≡ true
        by_size ds rows e f false h = cc
        by_size ds rows e f true h =
            some_line (definition_lines sources root) ds (definition_lines_exact names sources root ds e) s
            (settled_from rule ds rows s f (ap (λ (t : List Definition). is_sequence t s) (same_Ok rows table h) ∙ there))

        by_rows : (ds : List Definition) → definitions_of names sources root ≡ Ok ds → (r : Result (List Definition) Overlap) → settled rule ds ≡ r → bounded r ≡ Ok table
            → is_some (counting_line names (definition_lines sources root) s) ≡ true
        by_rows ds e (Err o) f h = cc
        by_rows ds e (Ok rows) f h = by_size ds rows e f (nat_le (length (nodes rows)) max_nodes) h

        by_definitions : (r : Result (List Definition) ReadFault) → definitions_of names sources root ≡ r → settled_by rule r ≡ Ok table
            → is_some (counting_line names (definition_lines sources root) s) ≡ true
        by_definitions (Err f) e h = cc
        by_definitions (Ok ds) e h = by_rows ds e (settled rule ds) refl h

    counting_line_keys : option_and_then (λ (line : WrittenLine). sequence_named names line.keys) (counting_line names (read_lines sources root) s) ≡ Some s
    counting_line_keys = go (counting_line names (read_lines sources root) s) refl (ap (λ o. is_some o) (sym (same_lines root s)) ∙ counts)
      where
        go : (o : Option WrittenLine) → counting_line names (read_lines sources root) s ≡ o → is_some o ≡ true → option_and_then (λ (line : WrittenLine). sequence_named names line.keys) o ≡ Some s
        go None e h = cc
        go (Some l) e h = right_keys s (read_lines sources root) l e

  -- each sequence of a table that is read has a line that counts, whose keys it is
  pub are_lines : (root : List ℕ) (rule : Rule) (table : List Definition) → table_of names sources root rule ≡ Ok table
      → AreLines names table (map (counting_line names (read_lines sources root)) (leaves table))
  are_lines root rule table read = go (leaves table) (λ s h. counting_line_keys root rule table read s (sym (leaf_means table s) ∙ h))
    where
      go : (xs : List (List ℕ))
          → ((s : List ℕ) → list_any (same s) xs ≡ true → option_and_then (λ (line : WrittenLine). sequence_named names line.keys) (counting_line names (read_lines sources root) s) ≡ Some s)
          → map (option_and_then (λ (line : WrittenLine). sequence_named names line.keys)) (map (counting_line names (read_lines sources root)) xs) ≡ map (λ s. Some s) xs
      go [] f = refl
      go (x ∷ xs) f = ap₂ (λ y ys. y ∷ ys) (f x (or_left (same x x) (list_any (same x) xs) (same_from x x refl))) (go xs (λ s h. f s (or_right (same s x) (list_any (same s) xs) h)))

  -- ---- the lines that begin like definitions

  module _ (root : List ℕ) (ds : List Definition) (read : definitions_of names sources root ≡ Ok ds) where
    -- they define the sequences that are read, each one
    pub sequences_defined : map (λ (d : Definition). Some d.sequence) ds ≡ map (λ (v : Visit). defined_sequence names v.bytes) (begun_lines sources root)
    sequences_defined =
        go (definition_lines sources root) ds (definition_lines_exact names sources root ds read)
        ∙ ap (map (λ (v : Visit). defined_sequence names v.bytes)) (sym (begun_lines_exact names sources root ds read))
      where
        go : (vs : List Visit) (es : List Definition) → map (line_result names sources) vs ≡ each es
            → map (λ (d : Definition). Some d.sequence) es ≡ map (λ (v : Visit). defined_sequence names v.bytes) vs
        go [] [] h = refl
        go [] (e ∷ es) h = cc
        go (v ∷ vs) [] h = cc
        go (v ∷ vs) (e ∷ es) h =
            let parts = heads (line_result names sources v) (Ok (Some e)) (map (line_result names sources) vs) (each es) h in
            ap₂ (λ y ys. y ∷ ys) (sym (gives_sequence v e parts.0)) (go vs es parts.1)

    -- and count alone
    pub begun_count : (xs : List (List ℕ)) → map (counting_line names (begun_lines sources root)) xs ≡ map (counting_line names (read_lines sources root)) xs
    begun_count [] = refl
    begun_count (x ∷ xs) = ap₂ (λ y ys. y ∷ ys) (ap (λ vs. counting_line names vs x) (begun_lines_exact names sources root ds read) ∙ same_lines root x) (begun_count xs)
