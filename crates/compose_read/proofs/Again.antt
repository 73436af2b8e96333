-- A source that is included again, with at least as many levels left below it, has the same result
-- again.
use Rattle.std.proofs.Common.{◌≡◌, ◌≤◌, ◌+◌, ◌-◌, ℕ, zero, suc, List, [], ◌∷◌, ◌++◌, Bool, true, false, cond, not, ◌&&◌, length, refl, sym, ◌∙◌, ap, ap₂, subst, arith, length-append, nat_lt, get_or}
use Rattle.std.specs.Prelude.{Option, Some, None, Result, Ok, Err, is_ok, flat_map}
use Rattle.std.specs.Option.{option_map_or}
use Rattle.std.specs.Str.{is_utf8}
use Rattle.std.proofs.lemmas.Bool.{and_parts, and_from, lt-ltb, ltb-true}
use Rattle.std.proofs.lemmas.Grind.{flat_map-append}
use Rattle.std.proofs.lemmas.List.Folds.{list_all-append}
use Rattle.compose_text.specs.Results.{◌>>=◌}
use Rattle.keysym_core.specs.Keysym.{is_ignored}
use Rattle.keysym_core.specs.Names.{KeysymNames, value, text}
use Rattle.compose_model.specs.Table.{Definition}
use Rattle.compose_lex.specs.Line.{Reading, blank, include, production}
use Rattle.compose_lex.specs.Fault.{reading_of}
use Rattle.compose_lex.specs.Escape.{text_of}
use Rattle.compose_lex.specs.declared.LexFault.{LexFault}
use Rattle.compose_read.specs.Lines.{Source, Visit, included, included_by, source_named, numbered, own_lines, source_lines, visits_below}
use Rattle.compose_read.specs.Read.{at_line, event_keysym, sequence_of, string_text, result_text, definition_of, include_fault, reading_result, line_result}
use Rattle.compose_read.specs.Kept.{definitions_in, given, are_faultless}
use Rattle.compose_read.specs.Visits.{below}
use Rattle.compose_read.proofs.ReadLines.{plain_line, lines_below}
use Rattle.compose_read.specs.declared.ReadFault.{ReadFault}
use Rattle.compose_read.specs.declared.ReadFault.TheVariants as faults

-- ---- one line

-- what has a value there has the same value here
abbrev Follows : {A : Type 0} → Result A ReadFault → Result A ReadFault → Type 0
Follows (Ok x) s = s ≡ Ok x
Follows (Err e) s = Unit {0}

follows_then : {A B : Type 0} (r s : Result A ReadFault) (f g : A → Result B ReadFault) → Follows r s → ((x : A) → Follows (f x) (g x)) → Follows (r >>= f) (s >>= g)
follows_then (Err e) s f g h k = tt
follows_then (Ok x) s f g h k = subst (λ s. Follows (f x) (s >>= g)) (sym h) (k x)

same_then : {A : Type 0} (r s : Result A ReadFault) → Follows r s → is_ok r ≡ true → s ≡ r
same_then (Err e) s h k = cc
same_then (Ok x) s h k = h

module _ (names : KeysymNames) (sources : List Source) (v w : Visit) where
  part_again : {A : Type 0} (r : Result A LexFault) → Follows (at_line v r) (at_line w r)
  part_again (Ok x) = refl
  part_again (Err fault) = tt

  event_again : (index : ℕ) (o : Option ℕ) → Follows (event_keysym v index o) (event_keysym w index o)
  event_again index None = tt
  event_again index (Some k) = go (is_ignored k)
    where
      go : (b : Bool) → Follows {A = ℕ} (cond b (Err (faults.IgnoredKeysym v.source v.line index)) (Ok k)) (cond b (Err (faults.IgnoredKeysym w.source w.line index)) (Ok k))
      go true = tt
      go false = refl

  sequence_again : (index : ℕ) (events : List (List ℕ)) → Follows (sequence_of names v index events) (sequence_of names w index events)
  sequence_again index [] = refl
  sequence_again index (event ∷ events) =
      follows_then (event_keysym v index (value names event)) (event_keysym w index (value names event))
      (λ k. sequence_of names v (1 + index) events >>= (λ sequence. Ok (k ∷ sequence))) (λ k. sequence_of names w (1 + index) events >>= (λ sequence. Ok (k ∷ sequence)))
      (event_again index (value names event))
      (λ k. follows_then (sequence_of names v (1 + index) events) (sequence_of names w (1 + index) events) (λ sequence. Ok (k ∷ sequence)) (λ sequence. Ok (k ∷ sequence))
      (sequence_again (1 + index) events) (λ _. refl))

  string_again : (raw : Option (List ℕ)) → Follows (string_text v raw) (string_text w raw)
  string_again None = refl
  string_again (Some raw) = follows_then (at_line v (text_of raw)) (at_line w (text_of raw)) (λ t. Ok (Some t)) (λ t. Ok (Some t)) (part_again (text_of raw)) (λ _. refl)

  result_again : (events : ℕ) (name : Option (List ℕ)) → Follows (result_text names v events name) (result_text names w events name)
  result_again events None = refl
  result_again events (Some name) = go (value names name)
    where
      go : (o : Option ℕ)
          → Follows {A = List ℕ} (option_map_or (λ k. Ok (text names k)) o (Err (faults.UnknownKeysym v.source v.line events)))
          (option_map_or (λ k. Ok (text names k)) o (Err (faults.UnknownKeysym w.source w.line events)))
      go None = tt
      go (Some k) = refl

  module _ (events : List (List ℕ)) (raw name : Option (List ℕ)) where
    abbrev made : List ℕ → Option (List ℕ) → List ℕ → Result Definition ReadFault
    made sequence string other = Ok (record { sequence = sequence; text = option_map_or (λ s. s) string other })

    definition_again : Follows (definition_of names v events raw name) (definition_of names w events raw name)
    definition_again =
        follows_then (sequence_of names v 0 events) (sequence_of names w 0 events)
        (λ sequence. string_text v raw >>= (λ string. result_text names v (length events) name >>= made sequence string))
        (λ sequence. string_text w raw >>= (λ string. result_text names w (length events) name >>= made sequence string))
        (sequence_again 0 events)
        (λ sequence. follows_then (string_text v raw) (string_text w raw)
        (λ string. result_text names v (length events) name >>= made sequence string) (λ string. result_text names w (length events) name >>= made sequence string) (string_again raw)
        (λ string. follows_then (result_text names v (length events) name) (result_text names w (length events) name) (made sequence string) (made sequence string) (result_again (length events) name)
        (λ _. refl)))

  module _ (shallow : w.depth ≤ v.depth) where
    include_again : (name : List ℕ) → Follows (include_fault sources v name) (include_fault sources w name)
    include_again name =
        go (nat_lt (source_named sources name) (length sources)) (nat_lt v.depth 8) (nat_lt w.depth 8) (λ h. let l = ltb-true v.depth 8 h in lt-ltb w.depth 8 (omega (arith, l, shallow)))
      where
        go : (known a b : Bool) → (a ≡ true → b ≡ true)
            → Follows {A = Option Definition} (cond (not known) (Err (faults.MissingInclude v.source v.line)) (cond a (Ok None) (Err (faults.IncludeDepth v.source v.line))))
            (cond (not known) (Err (faults.MissingInclude w.source w.line)) (cond b (Ok None) (Err (faults.IncludeDepth w.source w.line))))
        go false a b h = tt
        go true false b h = tt
        go true true b h = ap (λ b. let r : Result (Option Definition) ReadFault = cond b (Ok None) (Err (faults.IncludeDepth w.source w.line)) in r) (h refl)

    expected_again : (reading : Reading) → Follows (reading_result names sources v reading) (reading_result names sources w reading)
    expected_again blank = refl
    expected_again (include name) = include_again name
    expected_again (production events raw name) =
        follows_then (definition_of names v events raw name) (definition_of names w events raw name) (λ d. Ok (Some d)) (λ d. Ok (Some d)) (definition_again events raw name) (λ _. refl)

    -- a line without a fault has the same result again if no more includes lead to it
    pub line_again : (bytes : List ℕ) → v.bytes ≡ bytes → w.bytes ≡ bytes → is_ok (line_result names sources v) ≡ true → line_result names sources w ≡ line_result names sources v
    line_again bytes a b =
        same_then (line_result names sources v) (line_result names sources w)
        (subst (λ bs. Follows (line_of v bs) (line_result names sources w)) (sym a) (subst (λ bs. Follows (line_of v bytes) (line_of w bs)) (sym b) (by_utf8 (is_utf8 bytes))))
      where
        line_of : Visit → List ℕ → Result (Option Definition) ReadFault
        line_of u bs = cond (is_utf8 bs) (at_line u (reading_of bs) >>= reading_result names sources u) (Err (faults.NotUtf8 u.source u.line))

        by_utf8 : (u : Bool)
            → Follows {A = Option Definition} (cond u (at_line v (reading_of bytes) >>= reading_result names sources v) (Err (faults.NotUtf8 v.source v.line)))
            (cond u (at_line w (reading_of bytes) >>= reading_result names sources w) (Err (faults.NotUtf8 w.source w.line)))
        by_utf8 false = tt
        by_utf8 true = follows_then (at_line v (reading_of bytes)) (at_line w (reading_of bytes)) (reading_result names sources v) (reading_result names sources w) (part_again (reading_of bytes)) expected_again

-- if no level is left, a line without a fault includes nothing
none_included : (names : KeysymNames) (sources : List Source) (v : Visit) → v.depth ≡ 8 → is_ok (line_result names sources v) ≡ true → included sources v.bytes ≡ None
none_included names sources v deep h = by_utf8 (is_utf8 v.bytes) h
  where
    by_known : (name : List ℕ) (known inside : Bool) → inside ≡ false
        → is_ok (cond (not known) (Err (faults.MissingInclude v.source v.line)) (let r : Result (Option Definition) ReadFault = cond inside (Ok None) (Err (faults.IncludeDepth v.source v.line)) in r))
        ≡ true
        → (let o : Option ℕ = cond known (Some (source_named sources name)) None in o) ≡ None
    by_known name false inside e h = refl
    by_known name true true e h = cc
    by_known name true false e h = cc

    by_reading : (r : Result Reading LexFault) → is_ok (at_line v r >>= reading_result names sources v) ≡ true → included_by sources r ≡ None
    by_reading (Err fault) h = refl
    by_reading (Ok blank) h = refl
    by_reading (Ok (production events raw name)) h = refl
    by_reading (Ok (include name)) h = by_known name (nat_lt (source_named sources name) (length sources)) (nat_lt v.depth 8) (ap (λ n. nat_lt n 8) deep) h

    by_utf8 : (u : Bool) → is_ok (cond u (at_line v (reading_of v.bytes) >>= reading_result names sources v) (Err (faults.NotUtf8 v.source v.line))) ≡ true
        → (let o : Option ℕ = cond u (included_by sources (reading_of v.bytes)) None in o) ≡ None
    by_utf8 false h = refl
    by_utf8 true h = by_reading (reading_of v.bytes) h

-- ---- the lines of a source

module _ (names : KeysymNames) (sources : List Source) where
  -- they have no fault either, have the same definitions, and are as many
  pub record IsAgain (vs ws : List Visit) : Type 0 where
    pub faultless : are_faultless names sources ws ≡ true
    pub given : given names sources ws ≡ given names sources vs
    pub many : length ws ≡ length vs

  no_lines : IsAgain [] []
  no_lines = record { faultless = refl; given = refl; many = refl }

  abbrev Again : List Visit → List Visit → Type 0
  Again vs ws = are_faultless names sources vs ≡ true → IsAgain vs ws

  behind : (us vs xs ys : List Visit) → Again us vs → Again xs ys → Again (us ++ xs) (vs ++ ys)
  behind us vs xs ys a b h =
      let parts = and_parts (are_faultless names sources us) (are_faultless names sources xs) (sym (list_all-append (λ v. is_ok (line_result names sources v)) us xs) ∙ h) in
      let f = a parts.0 in let g = b parts.1 in record {
        faultless = list_all-append (λ v. is_ok (line_result names sources v)) vs ys ∙ and_from (are_faultless names sources vs) (are_faultless names sources ys) f.faultless g.faultless;
        given =
            flat_map-append (λ v. definitions_in (line_result names sources v)) vs ys
            ∙ ap₂ (λ t u. t ++ u) f.given g.given ∙ sym (flat_map-append (λ v. definitions_in (line_result names sources v)) us xs);
        many = (let n = length-append us xs in let m = length-append vs ys in let i = f.many in let j = g.many in omega arith);
      }

  alone_again : (v w : Visit) → w.depth ≤ v.depth → w.bytes ≡ v.bytes → Again (v ∷ []) (w ∷ [])
  alone_again v w d b h =
      let same = line_again names sources v w d v.bytes refl b (and_parts (is_ok (line_result names sources v)) true h).0 in record {
        faultless = ap (λ r. is_ok r && true) same ∙ h;
        given = ap (λ r. definitions_in r ++ []) same;
        many = refl;
      }

  module _ (source depth other : ℕ) (f g : Visit → List Visit)
      (one : (number : ℕ) (line : List ℕ)
      → Again (f (record { source = source; line = number; bytes = line; depth = depth })) (g (record { source = source; line = number; bytes = line; depth = other }))) where
    lines_again : (number : ℕ) (lines : List (List ℕ)) → Again (flat_map f (numbered source depth number lines)) (flat_map g (numbered source other number lines))
    lines_again number [] h = no_lines
    lines_again number (line ∷ lines) h =
        behind (f (record { source = source; line = number; bytes = line; depth = depth })) (g (record { source = source; line = number; bytes = line; depth = other }))
        (flat_map f (numbered source depth (1 + number) lines)) (flat_map g (numbered source other (1 + number) lines)) (one number line) (lines_again (1 + number) lines) h

  -- a line and what it includes
  deepest_again : (left : ℕ) (v w : Visit) → v.depth ≡ 8 → w.depth ≤ v.depth → w.bytes ≡ v.bytes → Again (below sources zero v) (below sources left w)
  deepest_again left v w deep d b h =
      let none = none_included names sources v deep (and_parts (is_ok (line_result names sources v)) true h).0 in
      subst (IsAgain (v ∷ [])) (sym (plain_line sources left w (ap (included sources) b ∙ none))) (alone_again v w d b h)

  line_below_again : (left other : ℕ) (v w : Visit) → w.depth ≤ v.depth → w.bytes ≡ v.bytes → ((source : ℕ) → Again (visits_below sources left source) (visits_below sources other source))
      → Again (below sources (suc left) v) (below sources (suc other) w)
  line_below_again left other v w d b deeper =
      subst (λ o. Again (v ∷ option_map_or (visits_below sources left) (included sources v.bytes) []) (w ∷ option_map_or (visits_below sources other) o [])) (ap (included sources) (sym b))
      (by_source (included sources v.bytes))
    where
      by_source : (o : Option ℕ) → Again (v ∷ option_map_or (visits_below sources left) o []) (w ∷ option_map_or (visits_below sources other) o [])
      by_source None = alone_again v w d b
      by_source (Some source) = behind (v ∷ []) (w ∷ []) (visits_below sources left source) (visits_below sources other source) (alone_again v w d b) (deeper source)

  by_lines : (left other source : ℕ)
      → Again (flat_map (below sources left) (own_lines sources source (8 - left))) (flat_map (below sources other) (own_lines sources source (8 - other)))
      → Again (visits_below sources left source) (visits_below sources other source)
  by_lines left other source =
      subst
      (λ vs. Again (flat_map (below sources left) (own_lines sources source (8 - left))) (flat_map (below sources other) (own_lines sources source (8 - other)))
      → Again vs (visits_below sources other source)) (sym (lines_below sources left source))
      (subst
      (λ ws. Again (flat_map (below sources left) (own_lines sources source (8 - left))) (flat_map (below sources other) (own_lines sources source (8 - other)))
      → Again (flat_map (below sources left) (own_lines sources source (8 - left))) ws) (sym (lines_below sources other source)) (λ a. a))

  abbrev lines_in : ℕ → List (List ℕ)
  lines_in source = source_lines (get_or sources source (record { name = []; bytes = [] })).bytes

  -- the lines visited from a source without a fault have none, and the same definitions, if more
  -- levels of includes are left
  pub source_again : (left other source : ℕ) → left ≤ other → other ≤ 8 → Again (visits_below sources left source) (visits_below sources other source)
  source_again zero other source l m =
      by_lines zero other source (lines_again source 8 (8 - other) (below sources zero) (below sources other) (λ number line. deepest_again other _ _ refl (omega arith) refl) 1 (lines_in source))
  source_again (suc left) zero source l m = absurd (omega arith)
  source_again (suc left) (suc other) source l m =
      by_lines (suc left) (suc other) source
      (lines_again source (8 - suc left) (8 - suc other) (below sources (suc left)) (below sources (suc other))
      (λ number line. line_below_again left other _ _ (omega (arith, l)) refl (λ s. source_again left other s (omega (arith, l)) (omega (arith, m)))) 1 (lines_in source))
