-- The line of each visit, and the events of those that give definitions.
use Rattle.std.proofs.Common.{◌≡◌, ◌<◌, ◌+◌, ◌-◌, ℕ, zero, suc, List, [], ◌∷◌, Bool, true, false, cond, not, length, map, take, drop, get_or, nat_lt, refl, sym, ◌∙◌, ap, arith}
use Rattle.std.specs.Prelude.{Option, Some, None, Result, Ok, Err, filter, flat_map, option_map, slice_get}
use Rattle.std.specs.List.{All}
use Rattle.std.specs.Option.{option_and_then, option_map_or}
use Rattle.std.specs.Str.{is_utf8}
use Rattle.std.proofs.lemmas.Bool.{ltb-true}
use Rattle.std.proofs.lemmas.Option.{same_Some, slice_get-get_or}
use Rattle.std.proofs.lemmas.List.Elements.{All-nil, All-cons, All-head, All-tail, All-append, All-take, All-filter}
use Rattle.compose_text.specs.Results.{◌>>=◌}
use Rattle.keysym_core.specs.Keysym.{is_ignored}
use Rattle.keysym_core.specs.Names.{KeysymNames, value}
use Rattle.compose_model.specs.Table.{Definition}
use Rattle.compose_lex.specs.Line.{Reading, blank, include, production}
use Rattle.compose_lex.specs.Fault.{reading_of}
use Rattle.compose_lex.specs.declared.LexFault.{LexFault}
use Rattle.compose_read.specs.Lines.{Source, Visit, source_lines, source_named, included_by, included, numbered, own_lines, visits_below, visits, max_depth}
use Rattle.compose_read.specs.Read.{at_line, reading_result, event_keysym, sequence_of, string_text, result_text, definition_of, line_result, definitions_of, max_lines}
use Rattle.compose_read.specs.declared.ReadFault.{ReadFault}
use Rattle.compose_read.specs.declared.ReadFault.TheVariants as faults
use Rattle.compose_places.specs.Places.{is_definition_line, definition_lines, place_of, definition_places}
use Rattle.compose_places.specs.declared.places.DefinitionPlace.{DefinitionPlace}
use Rattle.compose_places.specs.Events.{line_at, events_of, line_events, written_events}
use Rattle.compose_places.proofs.NumberedLines.{found_line}
use Rattle.compose_places.proofs.Decided.{definition_lines_exact}

-- ---- the line at the place of a visit

module _ (sources : List Source) where
  abbrev Stands : Visit → Type 0
  Stands v = line_at sources (place_of v) ≡ Some v.bytes

  module _ (source depth : ℕ) (bytes : List ℕ) (is : option_map (λ (s : Source). s.bytes) (slice_get sources source) ≡ Some bytes) where
    -- lines of the source that are numbered on from this number
    numbered_placed : (number : ℕ) (lines : List (List ℕ)) → ((i : ℕ) → slice_get (source_lines bytes) (number + i) ≡ slice_get lines i) → All Stands (numbered source depth (1 + number) lines)
    numbered_placed number [] h = All-nil Stands
    numbered_placed number (line ∷ lines) h =
        let v : Visit = record { source = source; line = 1 + number; bytes = line; depth = depth } in
        let same : 1 + number - 1 ≡ number + 0 = omega arith in
        All-cons Stands v (numbered source depth (1 + (1 + number)) lines) (sym (found_line sources (place_of v) bytes is (omega arith)) ∙ ap (slice_get (source_lines bytes)) same ∙ h 0)
        (numbered_placed (1 + number) lines (λ i. let one : 1 + number + i ≡ number + suc i = omega arith in ap (slice_get (source_lines bytes)) one ∙ h (suc i)))

  own_placed : (source depth : ℕ) → source < length sources → All Stands (own_lines sources source depth)
  own_placed source depth within =
      let nothing : Source = record { name = []; bytes = [] } in let bytes = (get_or sources source nothing).bytes in
      numbered_placed source depth bytes (ap (option_map (λ (s : Source). s.bytes)) (slice_get-get_or sources source nothing within)) 0 (source_lines bytes)
      (λ i. let none : 0 + i ≡ i = omega arith in ap (slice_get (source_lines bytes)) none)

  included_within : (bytes : List ℕ) (source : ℕ) → included sources bytes ≡ Some source → source < length sources
  included_within bytes source = go (is_utf8 bytes) (reading_of bytes)
    where
      by_name : (named : ℕ) (there : Bool) → nat_lt named (length sources) ≡ there → (let o : Option ℕ = cond there (Some named) None in o) ≡ Some source → source < length sources
      by_name named false e h = cc
      by_name named true e h = let same = same_Some named source h in let less = ltb-true named (length sources) e in omega (arith, same, less)

      go : (text : Bool) (r : Result Reading LexFault) → (let o : Option ℕ = cond text (included_by sources r) None in o) ≡ Some source → source < length sources
      go false r h = cc
      go true (Err fault) h = cc
      go true (Ok blank) h = cc
      go true (Ok (production events raw name)) h = cc
      go true (Ok (include name)) h = by_name (source_named sources name) (nat_lt (source_named sources name) (length sources)) refl h

  below_placed : (left source : ℕ) → source < length sources → All Stands (visits_below sources left source)
  below_placed zero source within = own_placed source max_depth within
  below_placed (suc left) source within = go (λ s h. below_placed left s h) (own_lines sources source (max_depth - suc left)) (own_placed source (max_depth - suc left) within)
    where
      by_include : ((s : ℕ) → s < length sources → All Stands (visits_below sources left s)) → (bytes : List ℕ) (o : Option ℕ) → included sources bytes ≡ o
          → All Stands (option_map_or (visits_below sources left) o [])
      by_include others bytes None e = All-nil Stands
      by_include others bytes (Some s) e = others s (included_within bytes s e)

      go : ((s : ℕ) → s < length sources → All Stands (visits_below sources left s)) → (vs : List Visit) → All Stands vs
          → All Stands (flat_map (λ v. v ∷ option_map_or (visits_below sources left) (included sources v.bytes) []) vs)
      go others [] h = All-nil Stands
      go others (v ∷ vs) h =
          let below = option_map_or (visits_below sources left) (included sources v.bytes) [] in
          All-append Stands (v ∷ below) (flat_map (λ v. v ∷ option_map_or (visits_below sources left) (included sources v.bytes) []) vs)
          (All-cons Stands v below (All-head Stands v vs h) (by_include others v.bytes (included sources v.bytes) refl)) (go others vs (All-tail Stands v vs h))

  definitions_placed : (root : List ℕ) → All Stands (definition_lines sources root)
  definitions_placed root = go (nat_lt (source_named sources root) (length sources)) refl
    where
      all : List Visit
      all = visits sources (source_named sources root)

      go : (there : Bool) → nat_lt (source_named sources root) (length sources) ≡ there → All Stands (cond there (filter (λ (v : Visit). is_definition_line v.bytes) (take max_lines all)) [])
      go false e = All-nil Stands
      go true e =
          All-filter (λ (v : Visit). is_definition_line v.bytes) Stands (take max_lines all)
          (All-take Stands max_lines all (below_placed max_depth (source_named sources root) (ltb-true (source_named sources root) (length sources) e)))

-- ---- the events of a line that gives a definition

module _ (names : KeysymNames) where
  abbrev in_ok : Result (List ℕ) ReadFault → List ℕ
  in_ok (Ok sequence) = sequence
  in_ok (Err e) = []

  -- the keysyms of the events' names
  abbrev keysyms_of : List (List ℕ) → List (Option ℕ)
  keysyms_of events = map (value names) events

  abbrev all_some : List ℕ → List (Option ℕ)
  all_some sequence = map (λ k. Some k) sequence

  sequence_values : (v : Visit) (index : ℕ) (events : List (List ℕ)) (sequence : List ℕ) → sequence_of names v index events ≡ Ok sequence → keysyms_of events ≡ all_some sequence
  sequence_values v index [] sequence h = ap (λ r. all_some (in_ok r)) h
  sequence_values v index (event ∷ events) sequence h = by_value (λ s e. sequence_values v (1 + index) events s e) (value names event) refl h
    where
      by_others : (k : ℕ) → ((s : List ℕ) → sequence_of names v (1 + index) events ≡ Ok s → keysyms_of events ≡ all_some s) → (r : Result (List ℕ) ReadFault)
          → sequence_of names v (1 + index) events ≡ r → value names event ≡ Some k
          → (r >>= (λ s. Ok (k ∷ s))) ≡ Ok sequence → keysyms_of (event ∷ events) ≡ all_some sequence
      by_others k others (Err f) e is h = cc
      by_others k others (Ok s) e is h = (let rest = others s e in λ i. is i ∷ rest i) ∙ ap (λ r. all_some (in_ok r)) h

      by_ignored : (k : ℕ) → ((s : List ℕ) → sequence_of names v (1 + index) events ≡ Ok s → keysyms_of events ≡ all_some s) → (ignored : Bool) → value names event ≡ Some k
          → ((let r : Result ℕ ReadFault = cond ignored (Err (faults.IgnoredKeysym v.source v.line index)) (Ok k) in r)
          >>= (λ k. sequence_of names v (1 + index) events >>= (λ s. Ok (k ∷ s)))) ≡ Ok sequence
          → keysyms_of (event ∷ events) ≡ all_some sequence
      by_ignored k others true is h = cc
      by_ignored k others false is h = by_others k others (sequence_of names v (1 + index) events) refl is h

      by_value : ((s : List ℕ) → sequence_of names v (1 + index) events ≡ Ok s → keysyms_of events ≡ all_some s) → (o : Option ℕ) → value names event ≡ o
          → (event_keysym v index o >>= (λ k. sequence_of names v (1 + index) events >>= (λ s. Ok (k ∷ s)))) ≡ Ok sequence
          → keysyms_of (event ∷ events) ≡ all_some sequence
      by_value others None is h = cc
      by_value others (Some k) is h = by_ignored k others (is_ignored k) is h

  module _ (v : Visit) (d : Definition) where
    abbrev in_definition : Result Definition ReadFault → List ℕ
    in_definition (Ok e) = e.sequence
    in_definition (Err f) = []

    definition_values : (events : List (List ℕ)) (raw name : Option (List ℕ)) → definition_of names v events raw name ≡ Ok d → keysyms_of events ≡ all_some d.sequence
    definition_values events raw name = by_sequence (sequence_of names v 0 events) refl
      where
        made : List ℕ → Result (Option (List ℕ)) ReadFault → Result (List ℕ) ReadFault → Result Definition ReadFault
        made sequence r t = r >>= (λ string. t >>= (λ other. Ok (record { sequence = sequence; text = option_map_or (λ s. s) string other })))

        by_text : (sequence : List ℕ) (r : Result (Option (List ℕ)) ReadFault) (t : Result (List ℕ) ReadFault) → made sequence r t ≡ Ok d → sequence ≡ d.sequence
        by_text sequence (Err f) t h = cc
        by_text sequence (Ok string) (Err f) h = cc
        by_text sequence (Ok string) (Ok other) h = ap in_definition h

        by_sequence : (r : Result (List ℕ) ReadFault) → sequence_of names v 0 events ≡ r
            → (r >>= (λ sequence. made sequence (string_text v raw) (result_text names v (length events) name))) ≡ Ok d → keysyms_of events ≡ all_some d.sequence
        by_sequence (Err f) e h = cc
        by_sequence (Ok sequence) e h = sequence_values v 0 events sequence e ∙ ap all_some (by_text sequence (string_text v raw) (result_text names v (length events) name) h)

    line_values : (sources : List Source) → line_result names sources v ≡ Ok (Some d) → option_map keysyms_of (line_events v.bytes) ≡ Some (all_some d.sequence)
    line_values sources = go (is_utf8 v.bytes) (reading_of v.bytes)
      where
        given : Result (Option Definition) ReadFault → Result Definition ReadFault
        given (Ok (Some e)) = Ok e
        given (Ok None) = Err faults.MissingRoot
        given (Err f) = Err f

        by_definition : (events : List (List ℕ)) (r : Result Definition ReadFault) → (r ≡ Ok d → keysyms_of events ≡ all_some d.sequence)
            → (r >>= (λ e. let x : Result (Option Definition) ReadFault = Ok (Some e) in x)) ≡ Ok (Some d) → keysyms_of events ≡ all_some d.sequence
        by_definition events (Err f) values h = cc
        by_definition events (Ok e) values h = values (ap given h)

        by_include : (missing room : Bool)
            → (let r : Result (Option Definition) ReadFault = cond missing (Err (faults.MissingInclude v.source v.line)) (cond room (Ok None) (Err (faults.IncludeDepth v.source v.line))) in
            r) ≡ Ok (Some d) → ⊥
        by_include true room h = cc
        by_include false true h = cc
        by_include false false h = cc

        go : (text : Bool) (r : Result Reading LexFault) → cond text (at_line v r >>= reading_result names sources v) (Err (faults.NotUtf8 v.source v.line)) ≡ Ok (Some d)
            → option_map keysyms_of (let o : Option (List (List ℕ)) = cond text (events_of r) None in o) ≡ Some (all_some d.sequence)
        go false r h = cc
        go true (Err f) h = cc
        go true (Ok blank) h = cc
        go true (Ok (include name)) h = absurd (by_include (not (nat_lt (source_named sources name) (length sources))) (nat_lt v.depth max_depth) h)
        go true (Ok (production events raw name)) h = ap (λ ks. Some ks) (by_definition events (definition_of names v events raw name) (definition_values events raw name) h)

-- ---- all lines

module _ (names : KeysymNames) (sources : List Source) where
  -- the keysyms of the names of the events at a place
  abbrev keysyms_at : DefinitionPlace → Option (List (Option ℕ))
  keysyms_at place = option_map (keysyms_of names) (written_events sources place)

  each_values : (vs : List Visit) (table : List Definition) → All (Stands sources) vs → map (line_result names sources) vs ≡ map (λ d. Ok (Some d)) table
      → map keysyms_at (map place_of vs) ≡ map (λ (d : Definition). Some (all_some names d.sequence)) table
  each_values [] [] a h = refl
  each_values [] (d ∷ table) a h = cc
  each_values (v ∷ vs) [] a h = cc
  each_values (v ∷ vs) (d ∷ table) a h =
      let nothing : Result (Option Definition) ReadFault = Ok None in
      let first = ap (λ o. option_map (keysyms_of names) (option_and_then line_events o)) (All-head (Stands sources) v vs a) ∙ line_values names v d sources (ap (λ rs. get_or rs 0 nothing) h) in
      let others = each_values vs table (All-tail (Stands sources) v vs a) (ap (drop 1) h) in
      λ i. first i ∷ others i

  -- at the place of each definition its events are written
  pub events_written : (root : List ℕ) (table : List Definition) → definitions_of names sources root ≡ Ok table
      → map (λ place. option_map (λ events. map (value names) events) (written_events sources place)) (definition_places sources root)
      ≡ map (λ (d : Definition). Some (map (λ k. Some k) d.sequence)) table
  events_written root table h = each_values (definition_lines sources root) table (definitions_placed sources root) (definition_lines_exact names sources root table h)
