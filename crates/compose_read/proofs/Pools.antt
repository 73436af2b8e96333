-- Rows in flat arrays do not change when more keysyms and texts are appended, and what is appended
-- is one more row.
use Rattle.std.proofs.Common.{◌≡◌, ℕ, suc, ◌+◌, ◌-◌, ◌≤◌, ◌<◌, List, [], ◌∷◌, ◌++◌, true, length, take, drop, get_or, nat_lt, All, refl, sym, ◌∙◌, ap, ap₂, subst, arith, inl, inr}
use Rattle.std.specs.Prelude.{Result, Ok, Err, OnOk, IsTrue}
use Rattle.std.specs.Str.{IsUtf8, IsCharBoundary}
use Rattle.std.proofs.Math.Seq.{take-length}
use Rattle.std.proofs.Math.ListN.{get_or-append, drop_of_length-le}
use Rattle.std.proofs.lemmas.List.{drop-append-le, take-append-le, take-append-drop, take-map, drop-map, length-drop, length-take, length-take-le, map-append, length-map, length-append, append-nil}
use Rattle.std.proofs.lemmas.List.Elements.{All-push, All-append, All-take, All-drop}
use Rattle.std.proofs.lemmas.List.Folds.{list_all-append}
use Rattle.std.proofs.lemmas.Bool.{cases_Bool, and_parts, and_from, ltb-true, ltb-false}
use Rattle.std.proofs.lemmas.Str.{IsCharBoundary-at_seam, IsCharBoundary-end, IsUtf8-nil}
use Rattle.compose_model.specs.Table.{Definition, is_definition, is_table}
use Rattle.compose_model.proofs.Definitions.{sequence_few, text_few}
use Rattle.compose_lex.specs.Escape.{Unescapes, IsText}
use Rattle.compose_lex.specs.Lexed.{PushReturns}
use Rattle.compose_lex.specs.declared.LexFault.{LexFault}
use Rattle.compose_lex.specs.declared.LexFault.TheVariants as lex_faults
use Rattle.compose_read.specs.Read.{max_definitions}
use Rattle.compose_read.specs.Rows.{definition_at, rows_of, IsPlaced, ArePlaced, IsBefore, ComesAfter, DraftRows, draft_rows, no_row, with_row}
use Rattle.compose_read.specs.declared.rows.RowSpan.{RowSpan}

-- ---- pieces

-- a piece does not change when more is appended
pub piece_stays : {X : Type 0} (a n : ℕ) (xs ys : List X) → a + n ≤ length xs → take n (drop a (xs ++ ys)) ≡ take n (drop a xs)
piece_stays a n xs ys h =
    ap (take n) (drop-append-le a xs ys (omega arith)) ∙ take-append-le n (drop a xs) ys (let l = length-drop a xs in omega arith)

-- what follows an offset is a piece
rest_taken : {X : Type 0} (first : ℕ) (xs : List X) (count from : ℕ) → from ≡ first → count ≡ length xs - first → take count (drop from xs) ≡ drop first xs
rest_taken first xs count from e f =
    (let l = length-drop first xs in let n : count ≡ length (drop first xs) = omega arith in ap₂ (λ n a. take n (drop a xs)) n e) ∙ take-length (drop first xs)

boundary_stays : (bs text : List ℕ) (i : ℕ) → IsUtf8 text → IsCharBoundary bs i → IsCharBoundary (bs ++ text) i
boundary_stays bs text i u h = elim (cases_Bool (nat_lt i (length bs))) [
  | inl e ↦ (let l = ltb-true i (length bs) e in let n = length-append bs text in
      (omega (arith, h.0), λ _ a. let same = get_or-append bs text 0 i l in let k = h.1 l (omega arith) in omega arith))
  | inr e ↦ (let l = ltb-false i (length bs) e in let end : length bs ≡ i = omega (arith, h.0) in
      subst (IsCharBoundary (bs ++ text)) end (IsCharBoundary-at_seam (bs ++ text) bs text refl u))
]

-- a boundary of the prefix
boundary_before : (bs : List ℕ) (end i : ℕ) → end ≤ length bs → i ≤ end → IsCharBoundary bs i → IsCharBoundary (take end bs) i
boundary_before bs end i l m h =
    let n = length-take-le end bs l in (
      omega arith,
      λ within a.
          (let same = get_or-append (take end bs) (drop end bs) 0 i within in
          let whole = ap (λ (cs : List ℕ). get_or cs i 0) (take-append-drop end bs) in
          let k = h.1 (omega arith) (omega (arith, same, whole, a)) in omega (arith, same, whole, k)),
    )

-- ---- rows

module _ (keysyms texts more text : List ℕ) (u : IsUtf8 text) where
  placed_stays : (p : RowSpan) → IsPlaced keysyms texts p → IsPlaced (keysyms ++ more) (texts ++ text) p
  placed_stays p h = record {
    few = h.few;
    keysyms_within = (let l = length-append keysyms more in let w = h.keysyms_within in omega arith);
    starts = boundary_stays texts text p.first_byte u h.starts;
    ends = boundary_stays texts text (p.first_byte + p.byte_count) u h.ends;
  }

  -- spans stay in place when more keysyms and texts are appended
  pub all_placed_stay : (ps : List RowSpan) → ArePlaced keysyms texts ps → ArePlaced (keysyms ++ more) (texts ++ text) ps
  all_placed_stay ps h = λ k d l. placed_stays (get_or ps k d) (h k d l)

  row_stays : (p : RowSpan) → IsPlaced keysyms texts p → definition_at (keysyms ++ more) (texts ++ text) p ≡ definition_at keysyms texts p
  row_stays p h = ap₂ (λ s t. let d : Definition = record { sequence = s; text = t } in d)
      (piece_stays p.first_keysym p.keysym_count keysyms more h.keysyms_within)
      (piece_stays p.first_byte p.byte_count texts text h.ends.0)

  -- rows do not change when more keysyms and texts are appended
  pub rows_stay : (ps : List RowSpan) → ArePlaced keysyms texts ps → rows_of (keysyms ++ more) (texts ++ text) ps ≡ rows_of keysyms texts ps
  rows_stay [] h = refl
  rows_stay (p ∷ ps) h = ap₂ (λ d ds. d ∷ ds) (row_stays p (h 0 p (omega arith))) (rows_stay ps (λ k d l. h (suc k) d (omega arith)))

-- rows that end before these offsets are in the prefixes that end there
module _ (keysyms texts : List ℕ) (first_keysym first_byte : ℕ) (l : first_keysym ≤ length keysyms) (m : first_byte ≤ length texts) where
  piece_before : (end a n : ℕ) (xs : List ℕ) → end ≤ length xs → a + n ≤ end → take n (drop a (take end xs)) ≡ take n (drop a xs)
  piece_before end a n xs within h =
      sym (piece_stays a n (take end xs) (drop end xs) (let k = length-take-le end xs within in omega arith))
      ∙ ap (λ (ys : List ℕ). take n (drop a ys)) (take-append-drop end xs)

  -- rows that end before the offsets are the same without the rest
  pub rows_before : (ps : List RowSpan) → All (IsBefore first_keysym first_byte) ps → rows_of (take first_keysym keysyms) (take first_byte texts) ps ≡ rows_of keysyms texts ps
  rows_before [] h = refl
  rows_before (p ∷ ps) h = let here = h 0 p (omega arith) in ap₂ (λ d ds. d ∷ ds)
      (ap₂ (λ s t. let d : Definition = record { sequence = s; text = t } in d)
      (piece_before first_keysym p.first_keysym p.keysym_count keysyms l here.0)
      (piece_before first_byte p.first_byte p.byte_count texts m here.1))
      (rows_before ps (λ k d n. h (suc k) d (omega arith)))

-- ---- definitions that are being read

-- the spans are those of complete definitions in place, and the offsets, at which one more is being
-- read, come after them
abbrev pub IsDrafted : List ℕ → List ℕ → List RowSpan → ℕ → ℕ → Type 0
IsDrafted keysyms texts spans first_keysym first_byte =
    ArePlaced keysyms texts spans × (first_keysym ≤ length keysyms) × IsCharBoundary texts first_byte × IsTrue (is_table (rows_of keysyms texts spans)) × ComesAfter spans first_keysym first_byte

module _ (ks ts : List ℕ) (ps : List RowSpan) (fk fb : ℕ) (is : IsDrafted ks ts ps fk fb) where
  module _ (more text : List ℕ) (u : IsUtf8 text) where
    grown : IsDrafted (ks ++ more) (ts ++ text) ps fk fb
    grown = (
      all_placed_stay ks ts more text u ps is.0,
      (let l = length-append ks more in let k = is.1 in omega arith),
      boundary_stays ts text fb u is.2,
      subst (λ rows. is_table rows ≡ true) (sym (rows_stay ks ts more text u ps is.0)) is.3,
      is.4,
    )

    draft_grown : draft_rows (ks ++ more) (ts ++ text) ps fk fb ≡ record { table = rows_of ks ts ps; row = record { sequence = drop fk ks ++ more; text = drop fb ts ++ text } }
    draft_grown =
        (λ i. let d : DraftRows = record { table = rows_stay ks ts more text u ps is.0 i; row = record { sequence = drop-append-le fk ks more is.1 i; text = drop-append-le fb ts text is.2.0 i } } in d)

  -- without what is being read
  module _ (prefix text : List ℕ) (k : prefix ≡ take fk ks) (t : text ≡ take fb ts) where
    prefix_placed : ArePlaced (take fk ks) (take fb ts) ps
    prefix_placed i d l =
        let p = is.0 i d l in let before = is.4.each i d l in let keysyms = length-take-le fk ks is.1 in record {
          few = p.few;
          keysyms_within = omega (arith, keysyms, before.0);
          starts = boundary_before ts fb (get_or ps i d).first_byte is.2.0 (omega (arith, before.1)) p.starts;
          ends = boundary_before ts fb ((get_or ps i d).first_byte + (get_or ps i d).byte_count) is.2.0 before.1 p.ends;
        }

    same_rows : rows_of (take fk ks) (take fb ts) ps ≡ rows_of ks ts ps
    same_rows = rows_before ks ts fk fb is.1 is.2.0 ps is.4.each

    -- without the definition that is being read, the keysyms, texts and spans hold the complete
    -- ones, and nothing after them
    pub begun : IsDrafted prefix text ps fk fb
    begun = subst (λ a. IsDrafted a text ps fk fb) (sym k) (subst (λ b. IsDrafted (take fk ks) b ps fk fb) (sym t) (
      prefix_placed,
      (let n = length-take-le fk ks is.1 in omega arith),
      boundary_before ts fb fb is.2.0 (omega arith) is.2,
      subst (λ rows. is_table rows ≡ true) (sym same_rows) is.3,
      is.4,
    ))

    -- a new definition begins empty, and the table does not change
    pub draft_begun : draft_rows prefix text ps fk fb ≡ with_row (draft_rows ks ts ps fk fb) no_row
    draft_begun =
        ap₂ (λ a b. draft_rows a b ps fk fb) k t
        ∙ (λ i. let d : DraftRows = record { table = same_rows i; row = record { sequence = none_left fk ks i; text = none_left fb ts i } } in d)
      where
        none_left : (n : ℕ) (xs : List ℕ) → drop n (take n xs) ≡ []
        none_left n xs = drop_of_length-le (take n xs) (let m = length-take n xs in omega arith)

  -- with more keysyms
  module _ (new more : List ℕ) (e : new ≡ ks ++ more) where
    -- more keysyms do not change the complete definitions, and are in the one that is being read
    pub with_keysyms : IsDrafted new ts ps fk fb
    with_keysyms = subst (λ ts. IsDrafted new ts ps fk fb) (append-nil ts) (subst (λ ks. IsDrafted ks (ts ++ []) ps fk fb) (sym e) (grown more [] IsUtf8-nil))

    -- more keysyms come after those of the sequence that is being read, and the table does not
    -- change
    pub draft_keysyms : draft_rows new ts ps fk fb ≡ with_row (draft_rows ks ts ps fk fb) (record { sequence = drop fk ks ++ more; text = drop fb ts })
    draft_keysyms =
        (λ i. draft_rows (e i) (sym (append-nil ts) i) ps fk fb)
        ∙ draft_grown more [] IsUtf8-nil
        ∙ ap (λ text. let d : DraftRows = record { table = rows_of ks ts ps; row = record { sequence = drop fk ks ++ more; text = text } } in d) (append-nil (drop fb ts))

  -- with more text
  module _ (new text : List ℕ) (e : new ≡ ts ++ text) (u : IsUtf8 text) where
    -- more text does not change the complete definitions, and is in the one that is being read
    pub with_text : IsDrafted ks new ps fk fb
    with_text = subst (λ ks. IsDrafted ks new ps fk fb) (append-nil ks) (subst (λ ts. IsDrafted (ks ++ []) ts ps fk fb) (sym e) (grown [] text u))

    -- more text comes after that of the definition that is being read, and the table does not
    -- change
    pub draft_text : draft_rows ks new ps fk fb ≡ with_row (draft_rows ks ts ps fk fb) (record { sequence = drop fk ks; text = drop fb ts ++ text })
    draft_text =
        (λ i. draft_rows (sym (append-nil ks) i) (e i) ps fk fb)
        ∙ draft_grown [] text u
        ∙ ap (λ sequence. let d : DraftRows = record { table = rows_of ks ts ps; row = record { sequence = sequence; text = drop fb ts ++ text } } in d) (append-nil (drop fk ks))

  -- with the text that a raw text stands for, or as before
  module _ (raw new : List ℕ) (r : Result (Unit {0}) LexFault) (reading_result : Result (List ℕ) LexFault) (gives : PushReturns ts new r reading_result)
      (found : OnOk r ((bytes : List ℕ) × (new ≡ ts ++ bytes) × Unescapes raw bytes × IsText bytes)) where
    later_text : (r : Result (Unit {0}) LexFault) → PushReturns ts new r reading_result → OnOk r ((bytes : List ℕ) × (new ≡ ts ++ bytes) × Unescapes raw bytes × IsText bytes)
        → (text : List ℕ) × (new ≡ ts ++ text) × IsUtf8 text
    later_text (Ok _) g f = (f.0, f.1, f.3.utf8)
    later_text (Err lex_faults.NoMemory) g f = ([], g ∙ sym (append-nil ts), IsUtf8-nil)
    later_text (Err e) g f = ([], g.1 ∙ sym (append-nil ts), IsUtf8-nil)

    abbrev behind : (text : List ℕ) × (new ≡ ts ++ text) × IsUtf8 text
    behind = later_text r gives found

    -- the text that a raw text stands for, or its fault, does not change the complete definitions
    pub with_raw_text : IsDrafted ks new ps fk fb
    with_raw_text = with_text new behind.0 behind.1 behind.2

    -- the text that a raw text stands for, or its fault, does not change the table
    pub table_stays : rows_of ks new ps ≡ rows_of ks ts ps
    table_stays = ap (λ (d : DraftRows). d.table) (draft_text new behind.0 behind.1 behind.2)

    -- what is appended to the texts is appended to the text of the definition that is being read
    pub text_given : PushReturns (drop fb ts) (drop fb new) r reading_result
    text_given = go r gives
      where
        go : (r : Result (Unit {0}) LexFault) → PushReturns ts new r reading_result → PushReturns (drop fb ts) (drop fb new) r reading_result
        go (Ok _) g = (g.0, g.1, ap (drop fb) g.2 ∙ drop-append-le fb ts g.0 is.2.0)
        go (Err lex_faults.NoMemory) g = ap (drop fb) g
        go (Err e) g = (g.0, ap (drop fb) g.1)

    -- a raw text that is pushed stands for the text that comes after the definition's own
    pub text_found : OnOk r ((bytes : List ℕ) × (drop fb new ≡ drop fb ts ++ bytes) × Unescapes raw bytes × IsText bytes)
    text_found = go r found
      where
        go : (r : Result (Unit {0}) LexFault) → OnOk r ((bytes : List ℕ) × (new ≡ ts ++ bytes) × Unescapes raw bytes × IsText bytes)
            → OnOk r ((bytes : List ℕ) × (drop fb new ≡ drop fb ts ++ bytes) × Unescapes raw bytes × IsText bytes)
        go (Ok _) f = (f.0, ap (drop fb) f.1 ∙ drop-append-le fb ts f.0 is.2.0, f.2, f.3)
        go (Err e) f = tt

  -- with some of the spans repeated
  module _ (first count : ℕ) (room : length (rows_of ks ts ps) + count ≤ max_definitions) (qs : List RowSpan) (e : qs ≡ ps ++ take count (drop first ps)) where
    -- spans that are repeated after the others repeat their rows
    pub rows_repeated : rows_of ks ts qs ≡ rows_of ks ts ps ++ take count (drop first (rows_of ks ts ps))
    rows_repeated =
        ap (rows_of ks ts) e ∙ map-append (definition_at ks ts) ps (take count (drop first ps))
        ∙ ap (λ rows. rows_of ks ts ps ++ rows) (sym (take-map (definition_at ks ts) count (drop first ps)) ∙ ap (take count) (sym (drop-map (definition_at ks ts) first ps)))

    definitions_again : is_table (take count (drop first (rows_of ks ts ps))) ≡ true
    definitions_again = prefix_of (drop first (rows_of ks ts ps)) (rest_of (rows_of ks ts ps) is.3)
      where
        rest_of : (rows : List Definition) → is_table rows ≡ true → is_table (drop first rows) ≡ true
        rest_of rows h =
            (and_parts (is_table (take first rows)) (is_table (drop first rows))
            (sym (list_all-append is_definition (take first rows) (drop first rows)) ∙ ap is_table (take-append-drop first rows) ∙ h)).1

        prefix_of : (rows : List Definition) → is_table rows ≡ true → is_table (take count rows) ≡ true
        prefix_of rows h =
            (and_parts (is_table (take count rows)) (is_table (drop count rows))
            (sym (list_all-append is_definition (take count rows) (drop count rows)) ∙ ap is_table (take-append-drop count rows) ∙ h)).0

    after_again : ComesAfter qs fk fb
    after_again =
        let all = is.4 in
        let old = length-map ps (definition_at ks ts) in
        let many = ap (λ (rs : List RowSpan). length rs) e ∙ length-append ps (take count (drop first ps)) in
        let more = length-take count (drop first ps) in record {
          few = omega (arith, room, old, many, more);
          keysyms = (let n = all.keysyms in omega (arith, n, many));
          bytes = (let n = all.bytes in omega (arith, n, many));
          each =
              subst (All (IsBefore fk fb)) (sym e)
              (All-append (IsBefore fk fb) ps (take count (drop first ps)) all.each (All-take (IsBefore fk fb) count (drop first ps) (All-drop (IsBefore fk fb) first ps all.each)));
        }

    -- spans that are repeated do not change the definition that is being read, if there is room for
    -- their rows
    pub repeated : IsDrafted ks ts qs fk fb
    repeated = (
      subst (ArePlaced ks ts) (sym e) (All-append (IsPlaced ks ts) ps (take count (drop first ps)) is.0 (All-take (IsPlaced ks ts) count (drop first ps) (All-drop (IsPlaced ks ts) first ps is.0))),
      is.1,
      is.2,
      subst (λ rows. is_table rows ≡ true) (sym rows_repeated)
          (list_all-append is_definition (rows_of ks ts ps) (take count (drop first (rows_of ks ts ps)))
          ∙ and_from (is_table (rows_of ks ts ps)) (is_table (take count (drop first (rows_of ks ts ps)))) is.3 definitions_again),
      after_again,
    )

  -- with the span of the definition that was read
  module _ (p : RowSpan) (keysym_from : p.first_keysym ≡ fk) (byte_from : p.first_byte ≡ fb) (keysym_count : p.keysym_count ≡ length ks - fk) (byte_count : p.byte_count ≡ length ts - fb)
      (definition : is_definition (record { sequence = drop fk ks; text = drop fb ts }) ≡ true) where
    row_there : definition_at ks ts p ≡ record { sequence = drop fk ks; text = drop fb ts }
    row_there =
        (λ i. let d : Definition = record
        { sequence = rest_taken fk ks p.keysym_count p.first_keysym keysym_from keysym_count i; text = rest_taken fb ts p.byte_count p.first_byte byte_from byte_count i } in d)

    -- with its span, the definition that was read is the last row
    pub table_finished : rows_of ks ts (ps ++ p ∷ []) ≡ rows_of ks ts ps ++ record { sequence = drop fk ks; text = drop fb ts } ∷ []
    table_finished = map-append (definition_at ks ts) ps (p ∷ []) ∙ ap (λ d. rows_of ks ts ps ++ d ∷ []) row_there

    there : IsPlaced ks ts p
    there = let l = length-drop fk ks in let k = is.1 in let b = is.2.0 in record {
      few = (let f = sequence_few (record { sequence = drop fk ks; text = drop fb ts }) definition in omega arith);
      keysyms_within = omega arith;
      starts = subst (IsCharBoundary ts) (sym byte_from) is.2;
      ends = subst (IsCharBoundary ts) (omega arith) (IsCharBoundary-end ts);
    }

    all_there : ArePlaced ks ts (ps ++ p ∷ [])
    all_there = All-push (IsPlaced ks ts) ps p is.0 there

    finished : length (rows_of ks ts ps) < max_definitions → IsDrafted ks ts (ps ++ p ∷ []) (length ks) (length ts)
    finished room = (
      all_there,
      omega arith,
      IsCharBoundary-end ts,
      subst (λ rows. is_table rows ≡ true) (sym table_finished)
          (list_all-append is_definition (rows_of ks ts ps) (record { sequence = drop fk ks; text = drop fb ts } ∷ [])
          ∙ and_from (is_table (rows_of ks ts ps)) (is_table (record { sequence = drop fk ks; text = drop fb ts } ∷ [])) is.3
          (and_from (is_definition (record { sequence = drop fk ks; text = drop fb ts })) true definition refl)),
      (
          let row : Definition = record { sequence = drop fk ks; text = drop fb ts } in
          let many = length-append ps (p ∷ []) in let old = length-map ps (definition_at ks ts) in
          let keysyms = length-drop fk ks in let few = sequence_few row definition in
          let bytes = length-drop fb ts in let short = text_few row definition in
          let all = is.4 in record {
            few = omega (arith, room, many, old);
            keysyms = (let n = all.keysyms in omega (arith, many, keysyms, few, n));
            bytes = (let n = all.bytes in omega (arith, many, bytes, short, n));
            each = λ k d l. let placed = all_there k d l in (placed.keysyms_within, placed.ends.0);
          }
          ),
    )

    -- with its span after the others, the definition that was read is the last row, and a new one
    -- begins after it
    pub finished_with : (qs : List RowSpan) → qs ≡ ps ++ p ∷ [] → length (rows_of ks ts ps) < max_definitions → (fk fb : ℕ) → fk ≡ length ks → fb ≡ length ts → IsDrafted ks ts qs fk fb
    finished_with qs e room fk fb k b =
        subst (λ ps. IsDrafted ks ts ps fk fb) (sym e) (subst (λ n. IsDrafted ks ts (ps ++ p ∷ []) n fb) (sym k) (subst (IsDrafted ks ts (ps ++ p ∷ []) (length ks)) (sym b) (finished room)))
