-- Rows whose keys have places: the row at the place of a key is the first one with that key.
use Rattle.std.proofs.Common.{◌≡◌, ◌<◌, ◌+◌, ℕ, zero, suc, Bool, true, false, cond, ◌&&◌, ◌||◌, ◌==◌, List, [], ◌∷◌, Option, Some, None, refl, sym, ap, ◌∙◌, arith, ◌⊎◌, inl, inr, slice_get, nat_lt, eqb-true, zero-add, subst}
use Rattle.std.proofs.lemmas.Bool.{true≢false, and_parts, ltb-true}
use Rattle.std.specs.Option.{option_map_or}
use Rattle.std.specs.List.{list_any}

-- f of the first row that passes
abbrev pub first_of : {A B : Type 0} → (A → Bool) → (A → B) → List A → Option B
first_of p f [] = None
first_of p f (row ∷ rows) = cond (p row) (Some (f row)) (first_of p f rows)

-- f of a row, if there is one that passes
abbrev pub if_passes : {A B : Type 0} → (A → Bool) → (A → B) → Option A → Option B
if_passes p f None = None
if_passes p f (Some row) = cond (p row) (Some (f row)) None

-- the first row that passes, with its index
pub record FirstAt {A B : Type 0} (p : A → Bool) (f : A → B) (rows : List A) : Type 0 where
  pub index : ℕ
  pub row : A
  pub there : slice_get rows index ≡ Some row
  pub passes : p row ≡ true
  pub value : first_of p f rows ≡ Some (f row)
  pub first : (i : ℕ) (r : A) → i < index → slice_get rows i ≡ Some r → p r ≡ false

-- no row passes
pub record NoneAt {A B : Type 0} (p : A → Bool) (f : A → B) (rows : List A) : Type 0 where
  pub value : first_of p f rows ≡ None
  pub fails : (i : ℕ) (r : A) → slice_get rows i ≡ Some r → p r ≡ false

none_is_not_some : {X : Type 0} {x : X} → None ≡ Some x → ⊥
none_is_not_some e = cc

same_of_some : {X : Type 0} {x y : X} → Some x ≡ Some y → x ≡ y
same_of_some e = cc

module _ {A B : Type 0} (p : A → Bool) (f : A → B) where
  pub where_first : (rows : List A) → FirstAt p f rows ⊎ NoneAt p f rows
  where_first [] = inr (record { value = refl; fails = λ i r e. absurd (none_is_not_some e) })
  where_first (row ∷ rows) = by (p row) refl (where_first rows)
    where
      before : (index i : ℕ) (r : A) → p row ≡ false → ((j : ℕ) (r : A) → j < index → slice_get rows j ≡ Some r → p r ≡ false) → i < suc index
          → slice_get (row ∷ rows) i ≡ Some r → p r ≡ false
      before index zero r e others less there = ap p (sym (same_of_some there)) ∙ e
      before index (suc i) r e others less there = others i r (omega (arith, less)) there

      never : (i : ℕ) (r : A) → p row ≡ false → ((j : ℕ) (r : A) → slice_get rows j ≡ Some r → p r ≡ false) → slice_get (row ∷ rows) i ≡ Some r → p r ≡ false
      never zero r e others there = ap p (sym (same_of_some there)) ∙ e
      never (suc i) r e others there = others i r there

      by : (b : Bool) → p row ≡ b → FirstAt p f rows ⊎ NoneAt p f rows → FirstAt p f (row ∷ rows) ⊎ NoneAt p f (row ∷ rows)
      by true e rest =
          inl
          (record {
            index = 0;
            row = row;
            there = refl;
            passes = e;
            value = ap (λ b. cond b (Some (f row)) (first_of p f rows)) e;
            first = λ i r less there. absurd (omega (arith, less));
          })
      by false e (inl found) =
          inl
          (record {
            index = suc found.index;
            row = found.row;
            there = found.there;
            passes = found.passes;
            value = ap (λ b. cond b (Some (f row)) (first_of p f rows)) e ∙ found.value;
            first = λ i r less there. before found.index i r e found.first less there;
          })
      by false e (inr none) =
          inr (record { value = ap (λ b. cond b (Some (f row)) (first_of p f rows)) e ∙ none.value; fails = λ i r there. never i r e none.fails there })

-- ---- rows with places

-- where no two rows have the same key
abbrev pub never : {A : Type 0} → A → A → Bool
never row other = false

-- the row at this index has its own place, or the one there is before it and has the same key
abbrev pub is_placed : {A : Type 0} → (A → ℕ) → (A → A → Bool) → List A → ℕ → A → Bool
is_placed place same all index row = place row == index || (nat_lt (place row) index && option_map_or (same row) (slice_get all (place row)) false)

-- these rows, the first of which has this index among all
abbrev pub are_placed : {A : Type 0} → (A → ℕ) → (A → A → Bool) → List A → ℕ → List A → Bool
are_placed place same all index [] = true
are_placed place same all index (row ∷ rows) = is_placed place same all index row && are_placed place same all (index + 1) rows

-- what a place is in the first or the second case
pub record Earlier {A : Type 0} (place index : ℕ) (same : A → A → Bool) (all : List A) (row : A) : Type 0 where
  pub less : place < index
  pub other : A
  pub there : slice_get all place ≡ Some other
  pub equal : same row other ≡ true

module _ {A : Type 0} (place : A → ℕ) (same : A → A → Bool) (all : List A) where
  one_place : (index : ℕ) (row : A) → is_placed place same all index row ≡ true → (place row ≡ index) ⊎ Earlier (place row) index same all row
  one_place index row h = by (place row == index) refl h
    where
      second : (o : Option A) → slice_get all (place row) ≡ o → option_map_or (same row) o false ≡ true → nat_lt (place row) index ≡ true → Earlier (place row) index same all row
      second None e h less = absurd (true≢false (sym h))
      second (Some other) e h less = record { less = ltb-true (place row) index less; other = other; there = e; equal = h }

      by : (b : Bool) → (place row == index) ≡ b → (b || (nat_lt (place row) index && option_map_or (same row) (slice_get all (place row)) false)) ≡ true
          → (place row ≡ index) ⊎ Earlier (place row) index same all row
      by true e h = inl (eqb-true (place row) index e)
      by false e h =
          let parts = and_parts (nat_lt (place row) index) (option_map_or (same row) (slice_get all (place row)) false) h in
          inr (second (slice_get all (place row)) refl parts.1 parts.0)

  pub placed_at : (rows : List A) (from i : ℕ) (row : A) → are_placed place same all from rows ≡ true → slice_get rows i ≡ Some row
      → (place row ≡ from + i) ⊎ Earlier (place row) (from + i) same all row
  placed_at [] from i row h e = absurd (none_is_not_some e)
  placed_at (first ∷ rows) from zero row h e =
      let parts = and_parts (is_placed place same all from first) (are_placed place same all (from + 1) rows) h in
      subst (λ n. (place row ≡ n) ⊎ Earlier (place row) n same all row) (omega arith)
      (subst (λ r. (place r ≡ from) ⊎ Earlier (place r) from same all r) (same_of_some e) (one_place from first parts.0))
  placed_at (first ∷ rows) from (suc i) row h e =
      let parts = and_parts (is_placed place same all from first) (are_placed place same all (from + 1) rows) h in
      subst (λ n. (place row ≡ n) ⊎ Earlier (place row) n same all row) (omega arith) (placed_at rows (from + 1) i row parts.1 e)

-- a key's first row is at its place
module _ {A B : Type 0} (p : A → Bool) (f : A → B) (place : A → ℕ) (same : A → A → Bool) (rows : List A) (at : ℕ)
    (placed : are_placed place same rows 0 rows ≡ true)
    (own : (row : A) → p row ≡ true → place row ≡ at)
    (equal : (row other : A) → p row ≡ true → same row other ≡ true → p other ≡ true) where
  at_place : (index : ℕ) (row : A) → slice_get rows index ≡ Some row → p row ≡ true → ((i : ℕ) (r : A) → i < index → slice_get rows i ≡ Some r → p r ≡ false) → at ≡ index
  at_place index row there passes first = by (placed_at place same rows rows 0 index row placed there)
    where
      by : (place row ≡ 0 + index) ⊎ Earlier (place row) (0 + index) same rows row → at ≡ index
      by (inl e) = sym (own row passes) ∙ e ∙ zero-add index
      by (inr earlier) = absurd (true≢false (sym (equal row earlier.other passes earlier.equal) ∙ first (place row) earlier.other (omega (arith, earlier.less)) earlier.there))

  pub first_is_placed : first_of p f rows ≡ if_passes p f (slice_get rows at)
  first_is_placed = by (where_first p f rows)
    where
      none : ((i : ℕ) (r : A) → slice_get rows i ≡ Some r → p r ≡ false) → (o : Option A) → slice_get rows at ≡ o → None ≡ if_passes p f o
      none fails None e = refl
      none fails (Some row) e = ap (λ b. cond b (Some (f row)) None) (sym (fails at row e))

      by : FirstAt p f rows ⊎ NoneAt p f rows → first_of p f rows ≡ if_passes p f (slice_get rows at)
      by (inl found) =
          found.value
          ∙ ap (λ b. cond b (Some (f found.row)) None) (sym found.passes)
          ∙ ap (if_passes p f) (sym (ap (slice_get rows) (at_place found.index found.row found.there found.passes found.first) ∙ found.there))
      by (inr missing) = missing.value ∙ none missing.fails (slice_get rows at) refl

-- an index of a row that passes
pub record At {A : Type 0} (p : A → Bool) (rows : List A) : Type 0 where
  pub index : ℕ
  pub row : A
  pub there : slice_get rows index ≡ Some row
  pub passes : p row ≡ true

pub some_at : {A : Type 0} (p : A → Bool) (rows : List A) → list_any p rows ≡ true → At p rows
some_at p [] h = absurd (true≢false (sym h))
some_at p (row ∷ rows) h = by (p row) refl h (some_at p rows)
  where
    by : (b : Bool) → p row ≡ b → (b || list_any p rows) ≡ true → (list_any p rows ≡ true → At p rows) → At p (row ∷ rows)
    by true e h others = record { index = 0; row = row; there = refl; passes = e }
    by false e h others =
        let rest = others h in
        record { index = suc rest.index; row = rest.row; there = rest.there; passes = rest.passes }

-- where no two rows have the same key, the place of a row's key is its index
pub own_place : {A : Type 0} (place : A → ℕ) (rows : List A) (i : ℕ) (row : A) → are_placed place never rows 0 rows ≡ true → slice_get rows i ≡ Some row → place row ≡ i
own_place place rows i row placed there = by (placed_at place never rows rows 0 i row placed there)
  where
    by : (place row ≡ 0 + i) ⊎ Earlier (place row) (0 + i) never rows row → place row ≡ i
    by (inl e) = e ∙ zero-add i
    by (inr earlier) = absurd (true≢false (sym earlier.equal))
