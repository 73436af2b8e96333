-- Long texts that are kept once, and the entries of texts that stand among them.
use Rattle.std.proofs.Common.{◌≡◌, ℕ, zero, suc, ◌+◌, ◌%◌, ◌<◌, ◌≤◌, add-one, Bool, List, [], ◌∷◌, ◌++◌, true, false, cond, length, filter, take, drop, refl, sym, ◌∙◌, ap, subst, arith, append_assoc, append-nil, length-append}
use Rattle.std.specs.Prelude.{◌||◌, None, Some, is_some, option_map, slice_get, unwrap_or, bytes_eq, nat_lt, if◌then◌else◌}
use Rattle.std.specs.Borrow.{Bor}
use Rattle.std.specs.List.{AllByRecursion, list_any}
use Rattle.std.specs.Map.{lookup}
use Rattle.std.proofs.lemmas.Bool.{lt-ltb}
use Rattle.std.proofs.lemmas.List.{map-append}
use Rattle.std.proofs.lemmas.List.Concat.{flat_map-append}
use Rattle.std.proofs.lemmas.Slice.Eq.{bytes_eq-Decides}
use Rattle.indexmap.specs.IndexSet.{insert_all, insert_key}
use Rattle.compose_model.specs.Table.{Definition}
use Rattle.compose_tree.specs.Packed.{kept_texts, long_text, long_texts, text_entry, texts_of, with_kept, AreEntries, AreKept, HasLongText}
use Rattle.compose_tree.proofs.Unpacking.{long_even, long_read}

-- ---- more long texts

drop_within : (n : ℕ) (xs ys : List ℕ) → n ≤ length xs → drop n (xs ++ ys) ≡ drop n xs ++ ys
drop_within zero xs ys h = refl
drop_within (suc n) [] ys h = absurd (omega (arith, h))
drop_within (suc n) (x ∷ xs) ys h = drop_within n xs ys (omega (arith, h))

take_within : (n : ℕ) (xs ys : List ℕ) → n ≤ length xs → take n (xs ++ ys) ≡ take n xs
take_within zero xs ys h = refl
take_within (suc n) [] ys h = absurd (omega (arith, h))
take_within (suc n) (x ∷ xs) ys h = ap (λ zs. x ∷ zs) (take_within n xs ys (omega (arith, h)))

length-drop_of : (n : ℕ) (xs : List ℕ) → n ≤ length xs → n + length (drop n xs) ≡ length xs
length-drop_of zero xs h = omega arith
length-drop_of (suc n) [] h = absurd (omega (arith, h))
length-drop_of (suc n) (x ∷ xs) h = let later = length-drop_of n xs (omega (arith, h)) in omega (arith, later)

-- a text stays where it stands if others are added
pub long_stays : (before : ℕ) (text long more : List ℕ) → HasLongText before text long → HasLongText before text (long ++ more)
long_stays before text long more h = record {
  even = h.even;
  fits = λ four. (let fits = h.fits four in let n = length-append long more in omega (arith, fits, n));
  there = λ four.
      (let fits = h.fits four in
      ap (take (length text)) (drop_within before long more (omega (arith, fits)))
      ∙ take_within (length text) (drop before long) more (let n = length-drop_of before long (omega (arith, fits)) in omega (arith, fits, n)) ∙ h.there four);
}

-- and so do the entries of texts
pub entries_stay : (texts : List (List ℕ)) (entries long more : List ℕ) → AreEntries entries texts long → AreEntries entries texts (long ++ more)
entries_stay [] entries long more h = h
entries_stay (t ∷ texts) entries long more h = (h.0, h.1, h.2, long_stays h.0 t long more h.3, entries_stay texts h.1 long more h.4)

-- the entry of one more text comes after the others
pub one_more_entry : (texts : List (List ℕ)) (entries long : List ℕ) (before : ℕ) (t : List ℕ) → AreEntries entries texts long → HasLongText before t long
    → AreEntries (entries ++ text_entry before t) (texts ++ t ∷ []) long
one_more_entry [] entries long before t h placed = (before, [], ap (λ x. x ++ text_entry before t) h ∙ sym (append-nil (text_entry before t)), placed, refl)
one_more_entry (u ∷ texts) entries long before t h placed =
    (h.0, h.1 ++ text_entry before t, ap (λ x. x ++ text_entry before t) h.2 ∙ append_assoc (text_entry h.0 u) h.1 (text_entry before t), h.3, one_more_entry texts h.1 long before t h.4 placed)

-- ---- texts that are kept once

-- long texts take an even number of bytes
pub longs_even : (texts : List (List ℕ)) → length (long_texts texts) % 2 ≡ 0
longs_even [] = refl
longs_even (t ∷ texts) =
    let n = length-append (long_text t) (long_texts texts) in
    let here = long_even t in
    let later = longs_even texts in
    omega (arith, n, here, later)

-- a text that is added stands behind the others
pub added_stands : (texts : List (List ℕ)) (bytes text : List ℕ) → bytes ≡ long_texts texts → 4 ≤ length text → HasLongText (length bytes) text (bytes ++ long_text text)
added_stands texts bytes text e long =
    let there = long_read text (length bytes) bytes refl long in
    record {
      even = ap (λ x. length x % 2) e ∙ longs_even texts;
      fits = λ _. there.0;
      there = λ _. there.1;
    }

-- a text that was found stands at its place
stands : (places : List (Bor (List ℕ) × ℕ)) (bytes text : List ℕ) (place : ℕ) → AllByRecursion (λ e. HasLongText e.1 e.0.now bytes × (e.1 ≤ length bytes)) places
    → lookup (λ k. bytes_eq text k.now) places ≡ Some place → HasLongText place text bytes × (place ≤ length bytes)
stands [] bytes text place all found = cc
stands (e ∷ places) bytes text place all found = by (bytes_eq text e.0.now) refl found (stands places bytes text place all.1)
  where
    by : (b : Bool) → bytes_eq text e.0.now ≡ b → cond b (Some e.1) (lookup (λ k. bytes_eq text k.now) places) ≡ Some place
        → (lookup (λ k. bytes_eq text k.now) places ≡ Some place → HasLongText place text bytes × (place ≤ length bytes)) → HasLongText place text bytes × (place ≤ length bytes)
    by true is found later =
        let at : e.1 ≡ place = ap (λ o. unwrap_or o place) found in
        let same : text ≡ e.0.now = (bytes_eq-Decides text e.0.now).0 is in (
          subst (λ n. HasLongText n text bytes) at (subst (λ t. HasLongText e.1 t bytes) (sym same) all.0.0),
          subst (λ n. n ≤ length bytes) at all.0.1,
        )
    by false is found later = later found

pub found_stands : (places : List (Bor (List ℕ) × ℕ)) (bytes text : List ℕ) (place : ℕ) → AreKept places bytes → lookup (λ k. bytes_eq text k.now) places ≡ Some place
    → HasLongText place text bytes × (place ≤ length bytes)
found_stands places bytes text place kept found = stands places bytes text place kept.placed found

-- the places stay if more is added
places_stay : (places : List (Bor (List ℕ) × ℕ)) (bytes more : List ℕ) → AllByRecursion (λ e. HasLongText e.1 e.0.now bytes × (e.1 ≤ length bytes)) places
    → AllByRecursion (λ e. HasLongText e.1 e.0.now (bytes ++ more) × (e.1 ≤ length (bytes ++ more))) places
places_stay [] bytes more h = h
places_stay (e ∷ places) bytes more h = ((long_stays e.1 e.0.now bytes more h.0.0, (let within = h.0.1 in let n = length-append bytes more in omega (arith, within, n))), places_stay places bytes more h.1)

one_more_place : (places : List (Bor (List ℕ) × ℕ)) (bytes : List ℕ) (e : Bor (List ℕ) × ℕ) → AllByRecursion (λ x. HasLongText x.1 x.0.now bytes × (x.1 ≤ length bytes)) places
    → HasLongText e.1 e.0.now bytes × (e.1 ≤ length bytes) → AllByRecursion (λ x. HasLongText x.1 x.0.now bytes × (x.1 ≤ length bytes)) (places ++ e ∷ [])
one_more_place [] bytes e h here = (here, tt)
one_more_place (x ∷ places) bytes e h here = (h.0, one_more_place places bytes e h.1 here)

-- a long text that is added is kept with the others
pub one_more_kept : (places : List (Bor (List ℕ) × ℕ)) (bytes bytes' : List ℕ) (text : Bor (List ℕ)) → AreKept places bytes → 4 ≤ length text.now → bytes' ≡ bytes ++ long_text text.now
    → AreKept (places ++ (text, length bytes) ∷ []) bytes'
one_more_kept places bytes bytes' text kept long e =
    subst (AreKept (places ++ (text, length bytes) ∷ [])) (sym e)
    (record {
      bytes_are = ap (λ x. x ++ long_text text.now) kept.bytes_are
          ∙ sym (flat_map-append long_text (kept_texts places) (text.now ∷ []) ∙ ap (λ x. long_texts (kept_texts places) ++ x) (append-nil (long_text text.now)))
          ∙ ap long_texts (sym (map-append (λ (x : Bor (List ℕ) × ℕ). x.0.now) places ((text, length bytes) ∷ [])));
      placed = one_more_place places (bytes ++ long_text text.now) (text, length bytes) (places_stay places bytes (long_text text.now) kept.placed)
          (added_stands (kept_texts places) bytes text.now kept.bytes_are long, (let n = length-append bytes (long_text text.now) in omega (arith, n)));
    })

-- a text is among those that are kept exactly if it is found
lookup_any : (places : List (Bor (List ℕ) × ℕ)) (text : List ℕ) → is_some (lookup (λ k. bytes_eq text k.now) places) ≡ list_any (bytes_eq text) (kept_texts places)
lookup_any [] text = refl
lookup_any (e ∷ places) text = by (bytes_eq text e.0.now) (lookup_any places text)
  where
    by : (b : Bool) → is_some (lookup (λ k. bytes_eq text k.now) places) ≡ list_any (bytes_eq text) (kept_texts places)
        → is_some (cond b (Some e.1) (lookup (λ k. bytes_eq text k.now) places)) ≡ (b || list_any (bytes_eq text) (kept_texts places))
    by true h = refl
    by false h = h

wide : (text : List ℕ) → 4 ≤ length text → nat_lt 3 (length text) ≡ true
wide text long = lt-ltb 3 (length text) (omega (arith, long))

-- a text that is found is kept already
pub found_is_kept : (places : List (Bor (List ℕ) × ℕ)) (text : List ℕ) (place : ℕ) → 4 ≤ length text → lookup (λ k. bytes_eq text k.now) places ≡ Some place
    → kept_texts places ≡ with_kept (kept_texts places) text
found_is_kept places text place long found =
    sym (ap (λ b. if b then insert_key bytes_eq (kept_texts places) text else kept_texts places) (wide text long)
    ∙ ap (λ b. if b then kept_texts places else kept_texts places ++ text ∷ []) (sym (lookup_any places text) ∙ ap is_some found))

-- one that is not found is kept after the others
pub added_is_kept : (places : List (Bor (List ℕ) × ℕ)) (text : Bor (List ℕ)) (place : ℕ) → 4 ≤ length text.now → lookup (λ k. bytes_eq text.now k.now) places ≡ None
    → kept_texts (places ++ (text, place) ∷ []) ≡ with_kept (kept_texts places) text.now
added_is_kept places text place long none =
    map-append (λ (x : Bor (List ℕ) × ℕ). x.0.now) places ((text, place) ∷ [])
    ∙ sym (ap (λ b. if b then insert_key bytes_eq (kept_texts places) text.now else kept_texts places) (wide text.now long)
    ∙ ap (λ b. if b then kept_texts places else kept_texts places ++ text.now ∷ []) (sym (lookup_any places text.now) ∙ ap is_some none))

-- ---- all texts of a table

-- with one text more the kept ones of all are those that come after it
pub kept_on : (kept kept' whole rest : List (List ℕ)) (texts : List (List ℕ)) (t : List ℕ) → insert_all bytes_eq kept (filter (λ u. nat_lt 3 (length u)) texts) ≡ whole → texts ≡ t ∷ rest
    → kept' ≡ with_kept kept t → insert_all bytes_eq kept' (filter (λ u. nat_lt 3 (length u)) rest) ≡ whole
kept_on kept kept' whole rest texts t e f g =
    ap (λ k. insert_all bytes_eq k (filter (λ u. nat_lt 3 (length u)) rest)) g ∙ by (nat_lt 3 (length t))
    ∙ ap (λ ts. insert_all bytes_eq kept (filter (λ u. nat_lt 3 (length u)) ts)) (sym f) ∙ e
  where
    by : (b : Bool) → insert_all bytes_eq (if b then insert_key bytes_eq kept t else kept) (filter (λ u. nat_lt 3 (length u)) rest)
        ≡ insert_all bytes_eq kept (cond b (t ∷ filter (λ u. nat_lt 3 (length u)) rest) (filter (λ u. nat_lt 3 (length u)) rest))
    by true = refl
    by false = refl

-- the texts up to an index, and the one at it
texts_next : (all : List Definition) (i : ℕ) (t : List ℕ) → i < length all → option_map (λ (d : Definition). d.text) (slice_get all i) ≡ Some t
    → texts_of (take (suc i) all) ≡ texts_of (take i all) ++ t ∷ []
texts_next [] i t h e = absurd (omega (arith, h))
texts_next (d ∷ all) zero t h e = ap (λ o. unwrap_or o t ∷ []) e
texts_next (d ∷ all) (suc i) t h e = ap (λ ts. d.text ∷ ts) (texts_next all i t (omega (arith, h)) e)

pub texts_to : (all : List Definition) (i : ℕ) (t : List ℕ) → i < length all → option_map (λ (d : Definition). d.text) (slice_get all i) ≡ Some t
    → texts_of (take (i + 1) all) ≡ texts_of (take i all) ++ t ∷ []
texts_to all i t h e = rw add-one (texts_next all i t h e)
