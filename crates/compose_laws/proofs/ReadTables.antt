-- What is read of sources is a table.
use Rattle.std.proofs.Common.{◌≡◌, ◌≤◌, ◌<◌, ◌+◌, ℕ, List, [], ◌∷◌, ◌++◌, Bool, true, false, not, ◌&&◌, ◌||◌, cond, length, refl, ◌∙◌, ap, subst, arith}
use Rattle.std.specs.Prelude.{◌==◌, nat_lt, nat_le, Option, Some, None, option_to_list, is_some, Result, Ok, Err}
use Rattle.std.specs.List.{list_all}
use Rattle.std.specs.Option.{option_map_or}
use Rattle.std.specs.Str.{is_utf8}
use Rattle.std.proofs.lemmas.Bool.{and_parts, and_from, ltb-true, ltb-false, leb-true, lt-ltb, le-leb, not_from_false}
use Rattle.std.proofs.lemmas.List.Folds.{list_all-append}
use Rattle.compose_text.specs.Results.{◌>>=◌}
use Rattle.keysym_core.specs.Header.{names_of}
use Rattle.keysym_core.specs.Keysym.{is_keysym, is_ignored}
use Rattle.keysym_core.specs.Names.{KeysymNames, value, text}
use Rattle.keysym_core.proofs.Texts.{text_fits}
use Rattle.compose_model.specs.Table.{Definition, is_definition, is_table}
use Rattle.compose_lex.specs.Escape.{text_of, text_or, bytes_from}
use Rattle.compose_lex.specs.Fault.{reading_of}
use Rattle.compose_lex.specs.Line.{Reading, blank, include, production, is_reading, is_inside, is_name}
use Rattle.compose_lex.specs.declared.LexFault.{LexFault}
use Rattle.compose_lex.specs.declared.LexFault.TheVariants.{EmptyText, TextTooLong, TextNotUtf8}
use Rattle.compose_lex.proofs.LineSound.{reading_sound}
use Rattle.compose_read.specs.Lines.{Source, Visit, visits, source_named, max_depth}
use Rattle.compose_read.specs.Read.{at_line, event_keysym, sequence_of, string_text, result_text, definition_of, include_fault, reading_result, line_result, with_room, line_after, read_on, definitions_of, max_lines, max_definitions}
use Rattle.compose_read.specs.declared.ReadFault.{ReadFault}
use Rattle.compose_read.specs.declared.ReadFault.TheVariants.{MissingRoot, NotUtf8, UnknownKeysym, IgnoredKeysym, MissingInclude, IncludeDepth, TooManyLines, TooManyDefinitions}
use Rattle.compose_laws.proofs.ReadNames.{value_is}
use Rattle.compose_laws.proofs.Results.{bind_ok, ok_ok}

-- a key of a sequence
abbrev is_fed : ℕ → Bool
is_fed k = is_keysym k && not (is_ignored k)

module _ (header : List ℕ) (names : KeysymNames) (read : names_of header ≡ Ok names) where
  -- ---- the sequence

  key_fed : (v : Visit) (index k : ℕ) (o : Option ℕ) → ((j : ℕ) → o ≡ Some j → is_keysym j ≡ true) → event_keysym v index o ≡ Ok k → is_fed k ≡ true
  key_fed v index k None f h = absurd (cc)
  key_fed v index k (Some j) f h = go (is_ignored j) refl h
    where
      go : (b : Bool) → is_ignored j ≡ b → (let r : Result ℕ ReadFault = cond b (Err (IgnoredKeysym v.source v.line index)) (Ok j) in r) ≡ Ok k → is_fed k ≡ true
      go true is e = absurd (cc)
      go false is e = subst (λ i. is_fed i ≡ true) (ok_ok j k e) (and_from (is_keysym j) (not (is_ignored j)) (f j refl) (not_from_false (is_ignored j) is))

  keys_fed : (v : Visit) (index : ℕ) (events : List (List ℕ)) (ks : List ℕ) → sequence_of names v index events ≡ Ok ks → (list_all is_fed ks ≡ true) × (length ks ≡ length events)
  keys_fed v index [] ks h = subst (λ js. (list_all is_fed js ≡ true) × (length js ≡ 0)) (ok_ok [] ks h) (refl, refl)
  keys_fed v index (event ∷ events) ks h =
      let k = bind_ok (event_keysym v index (value names event)) (λ k. sequence_of names v (1 + index) events >>= (λ sequence. Ok (k ∷ sequence))) ks h in
      let more = bind_ok (sequence_of names v (1 + index) events) (λ sequence. Ok (k.0 ∷ sequence)) ks k.2 in
      let others = keys_fed v (1 + index) events more.0 more.1 in
      subst (λ js. (list_all is_fed js ≡ true) × (length js ≡ length (event ∷ events))) (ok_ok (k.0 ∷ more.0) ks more.2)
      (and_from (is_fed k.0) (list_all is_fed more.0) (key_fed v index k.0 (value names event) (λ j e. value_is header names event j read e) k.1) others.0, omega (arith, others.1))

  -- ---- the text

  short : (read : Result (List ℕ) LexFault) (bytes : List ℕ) → text_or read ≡ Ok bytes → length bytes ≤ 255
  short (Err fault) bytes h = absurd (cc)
  short (Ok found) bytes h = go (length found == 0) (nat_lt 255 (length found)) (is_utf8 found) refl h
    where
      go : (a b c : Bool) → nat_lt 255 (length found) ≡ b
          → (let r : Result (List ℕ) LexFault = cond a (Err EmptyText) (cond b (Err TextTooLong) (cond c (Ok found) (Err TextNotUtf8))) in r) ≡ Ok bytes
          → length bytes ≤ 255
      go true b c is e = absurd (cc)
      go false true c is e = absurd (cc)
      go false false true is e = subst (λ (bs : List ℕ). length bs ≤ 255) (ok_ok found bytes e) (omega (arith, ltb-false 255 (length found) is))
      go false false false is e = absurd (cc)

  at_ok : {A : Type 0} (v : Visit) (r : Result A LexFault) (a : A) → at_line v r ≡ Ok a → r ≡ Ok a
  at_ok v (Ok x) a h = ap (λ y. Ok y) (ok_ok x a h)
  at_ok v (Err fault) a h = absurd (cc)

  string_short : (v : Visit) (raw string : Option (List ℕ)) → string_text v raw ≡ Ok string → (other : List ℕ) → length other ≤ 255 → length (option_map_or (λ s. s) string other) ≤ 255
  string_short v None string h other few = subst (λ (o : Option (List ℕ)). length (option_map_or (λ s. s) o other) ≤ 255) (ok_ok None string h) few
  string_short v (Some raw) string h other few =
      let found = bind_ok (at_line v (text_of raw)) (λ text. Ok (Some text)) string h in
      subst (λ (o : Option (List ℕ)). length (option_map_or (λ s. s) o other) ≤ 255) (ok_ok (Some found.0) string found.2) (short (bytes_from 0 0 raw) found.0 (at_ok v (text_of raw) found.0 found.1))

  result_short : (v : Visit) (count : ℕ) (name : Option (List ℕ)) (other : List ℕ) → result_text names v count name ≡ Ok other → length other ≤ 255
  result_short v count None other h = subst (λ (bs : List ℕ). length bs ≤ 255) (ok_ok [] other h) (omega arith)
  result_short v count (Some name) other h = go (value names name) h
    where
      go : (o : Option ℕ) → (let r : Result (List ℕ) ReadFault = option_map_or (λ k. Ok (text names k)) o (Err (UnknownKeysym v.source v.line count)) in r) ≡ Ok other → length other ≤ 255
      go None e = absurd (cc)
      go (Some k) e = subst (λ (bs : List ℕ). length bs ≤ 255) (ok_ok (text names k) other e) (omega (arith, text_fits names k))

  -- ---- a definition

  abbrev defined : List ℕ → Option (List ℕ) → List ℕ → Definition
  defined sequence string other = record { sequence = sequence; text = option_map_or (λ s. s) string other }

  definition_is : (v : Visit) (events : List (List ℕ)) (raw name : Option (List ℕ)) (d : Definition) → 0 < length events → length events ≤ 32 → definition_of names v events raw name ≡ Ok d
      → is_definition d ≡ true
  definition_is v events raw name d some few h =
      let sequence = bind_ok (sequence_of names v 0 events) (λ sequence. string_text v raw >>= (λ string. result_text names v (length events) name >>= (λ other. Ok (defined sequence string other)))) d h in
      let string = bind_ok (string_text v raw) (λ string. result_text names v (length events) name >>= (λ other. Ok (defined sequence.0 string other))) d sequence.2 in
      let other = bind_ok (result_text names v (length events) name) (λ other. Ok (defined sequence.0 string.0 other)) d string.2 in
      let fed = keys_fed v 0 events sequence.0 sequence.1 in
      let short = string_short v raw string.0 string.1 other.0 (result_short v (length events) name other.0 other.1) in
      subst (λ (x : Definition). is_definition x ≡ true) (ok_ok (defined sequence.0 string.0 other.0) d other.2) (whole sequence.0 (option_map_or (λ s. s) string.0 other.0) (length events) fed.1 some few fed.0 short)
    where
      whole : (ks bytes : List ℕ) (n : ℕ) → length ks ≡ n → 0 < n → n ≤ 32 → list_all is_fed ks ≡ true → length bytes ≤ 255
          → nat_lt 0 (length ks) && nat_le (length ks) 32 && list_all is_fed ks && nat_le (length bytes) 255 ≡ true
      whole ks bytes n same some few fed short =
          and_from (nat_lt 0 (length ks) && nat_le (length ks) 32 && list_all is_fed ks) (nat_le (length bytes) 255)
          (and_from (nat_lt 0 (length ks) && nat_le (length ks) 32) (list_all is_fed ks)
          (and_from (nat_lt 0 (length ks)) (nat_le (length ks) 32) (lt-ltb 0 (length ks) (omega (arith, same, some))) (le-leb (length ks) 32 (omega (arith, same, few)))) fed) (le-leb (length bytes) 255 short)

  -- ---- a line

  -- what a line has is a definition
  abbrev AreDefinitions : Option Definition → Type 0
  AreDefinitions found = is_table (option_to_list found) ≡ true

  one_is : (d : Definition) → is_definition d ≡ true → AreDefinitions (Some d)
  one_is d h = and_from (is_definition d) true h refl

  include_none : (sources : List Source) (v : Visit) (name : List ℕ) (found : Option Definition) → include_fault sources v name ≡ Ok found → AreDefinitions found
  include_none sources v name found h = go (not (nat_lt (source_named sources name) (length sources))) (nat_lt v.depth max_depth) h
    where
      go : (a b : Bool) → (let r : Result (Option Definition) ReadFault = cond a (Err (MissingInclude v.source v.line)) (cond b (Ok None) (Err (IncludeDepth v.source v.line))) in r) ≡ Ok found → AreDefinitions found
      go true b e = absurd (cc)
      go false true e = subst AreDefinitions (ok_ok None found e) refl
      go false false e = absurd (cc)

  events_count : (events : List (List ℕ)) (raw name : Option (List ℕ)) → is_reading (production events raw name) ≡ true → (0 < length events) × (length events ≤ 32)
  events_count events raw name h =
      let one = and_parts (nat_lt 0 (length events) && nat_le (length events) 32 && list_all is_name events && option_map_or is_inside raw true && option_map_or is_name name true) (is_some raw || is_some name) h in
      let two = and_parts (nat_lt 0 (length events) && nat_le (length events) 32 && list_all is_name events && option_map_or is_inside raw true) (option_map_or is_name name true) one.0 in
      let three = and_parts (nat_lt 0 (length events) && nat_le (length events) 32 && list_all is_name events) (option_map_or is_inside raw true) two.0 in
      let four = and_parts (nat_lt 0 (length events) && nat_le (length events) 32) (list_all is_name events) three.0 in
      let five = and_parts (nat_lt 0 (length events)) (nat_le (length events) 32) four.0 in
      (ltb-true 0 (length events) five.0, leb-true (length events) 32 five.1)

  reading_is : (sources : List Source) (v : Visit) (reading : Reading) (found : Option Definition) → is_reading reading ≡ true → reading_result names sources v reading ≡ Ok found → AreDefinitions found
  reading_is sources v blank found right h = subst AreDefinitions (ok_ok None found h) refl
  reading_is sources v (include name) found right h = include_none sources v name found h
  reading_is sources v (production events raw name) found right h =
      let d = bind_ok (definition_of names v events raw name) (λ d. Ok (Some d)) found h in
      let count = events_count events raw name right in
      subst AreDefinitions (ok_ok (Some d.0) found d.2) (one_is d.0 (definition_is v events raw name d.0 count.0 count.1 d.1))

  line_is : (sources : List Source) (v : Visit) (found : Option Definition) → line_result names sources v ≡ Ok found → AreDefinitions found
  line_is sources v found h = go (is_utf8 v.bytes) h
    where
      go : (b : Bool) → (let r : Result (Option Definition) ReadFault = cond b (at_line v (reading_of v.bytes) >>= reading_result names sources v) (Err (NotUtf8 v.source v.line)) in r) ≡ Ok found → AreDefinitions found
      go true e =
          let reading = bind_ok (at_line v (reading_of v.bytes)) (reading_result names sources v) found e in
          reading_is sources v reading.0 found (reading_sound v.bytes reading.0 (at_ok v (reading_of v.bytes) reading.0 reading.1)).right reading.2
      go false e = absurd (cc)

  room_is : (v : Visit) (count : ℕ) (found after : Option Definition) → AreDefinitions found → with_room v count found ≡ Ok after → AreDefinitions after
  room_is v count None after all h = subst AreDefinitions (ok_ok None after h) all
  room_is v count (Some d) after all h = go (nat_le max_definitions count) h
    where
      go : (b : Bool) → (let r : Result (Option Definition) ReadFault = cond b (Err (TooManyDefinitions v.source v.line)) (Ok (Some d)) in r) ≡ Ok after → AreDefinitions after
      go true e = absurd (cc)
      go false e = subst AreDefinitions (ok_ok (Some d) after e) all

  after_is : (sources : List Source) (lines count : ℕ) (v : Visit) (found : Option Definition) → line_after names sources lines count v ≡ Ok found → AreDefinitions found
  after_is sources lines count v found h = go (nat_le max_lines lines) h
    where
      go : (b : Bool) → (let r : Result (Option Definition) ReadFault = cond b (Err (TooManyLines v.source v.line)) (line_result names sources v >>= with_room v count) in r) ≡ Ok found → AreDefinitions found
      go true e = absurd (cc)
      go false e =
          let line = bind_ok (line_result names sources v) (with_room v count) found e in
          room_is v count line.0 found (line_is sources v line.0 line.1) line.2

  -- ---- all lines

  lines_are : (sources : List Source) (lines count : ℕ) (vs : List Visit) (table : List Definition) → read_on names sources lines count vs ≡ Ok table → is_table table ≡ true
  lines_are sources lines count [] table h = subst (λ (ds : List Definition). is_table ds ≡ true) (ok_ok [] table h) refl
  lines_are sources lines count (v ∷ vs) table h =
      let found = bind_ok (line_after names sources lines count v) (λ found. read_on names sources (1 + lines) (length (option_to_list found) + count) vs >>= (λ table. Ok (option_to_list found ++ table))) table h in
      let more = bind_ok (read_on names sources (1 + lines) (length (option_to_list found.0) + count) vs) (λ table. Ok (option_to_list found.0 ++ table)) table found.2 in
      subst (λ (ds : List Definition). is_table ds ≡ true) (ok_ok (option_to_list found.0 ++ more.0) table more.2)
      (list_all-append is_definition (option_to_list found.0) more.0
      ∙ and_from (is_table (option_to_list found.0)) (is_table more.0) (after_is sources lines count v found.0 found.1)
      (lines_are sources (1 + lines) (length (option_to_list found.0) + count) vs more.0 more.1))

  pub definitions_are : (sources : List Source) (root : List ℕ) (table : List Definition) → definitions_of names sources root ≡ Ok table → is_table table ≡ true
  definitions_are sources root table h = go (nat_lt (source_named sources root) (length sources)) h
    where
      go : (b : Bool) → (let r : Result (List Definition) ReadFault = cond b (read_on names sources 0 0 (visits sources (source_named sources root))) (Err MissingRoot) in r) ≡ Ok table → is_table table ≡ true
      go true e = lines_are sources 0 0 (visits sources (source_named sources root)) table e
      go false e = absurd (cc)
