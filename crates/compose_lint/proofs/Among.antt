-- Looking up texts in a set, and the first occurrence of each text.
use Rattle.std.proofs.Common.{◌≡◌, ◌∙◌, ℕ, ◌+◌, ◌<◌, Bool, true, false, not, cond, List, [], ◌∷◌, ◌++◌, length, take, map, filter, get_or, refl, sym, ap}
use Rattle.std.specs.Prelude.{◌||◌, Option, Some, is_some, bytes_eq}
use Rattle.std.specs.List.{find, list_any, list_all}
use Rattle.std.proofs.lemmas.Bool.{and_parts, and_from, or_left, or_right}
use Rattle.std.proofs.lemmas.List.{take_more, map-append}
use Rattle.std.proofs.lemmas.Grind.{flat_map-append}
use Rattle.std.proofs.lemmas.List.Folds.{list_any-append}
use Rattle.std.proofs.lemmas.Slice.Eq.{bytes_eq-Decides}
use Rattle.compose_diff.specs.Accepted.{Line}
use Rattle.compose_lint.specs.Rows.{Row}
use Rattle.compose_lint.specs.Accepted.{distinct, as_line, as_lines, is_accepted, unless}

-- ---- the order of the compared texts

pub turned : (x y : List ℕ) → bytes_eq x y ≡ bytes_eq y x
turned x y = by (bytes_eq x y) (bytes_eq y x) refl refl
  where
    by : (s t : Bool) → bytes_eq x y ≡ s → bytes_eq y x ≡ t → bytes_eq x y ≡ bytes_eq y x
    by true true d e = d ∙ sym e
    by false false d e = d ∙ sym e
    by true false d e = d ∙ sym ((bytes_eq-Decides y x).1 (sym ((bytes_eq-Decides x y).0 d)))
    by false true d e = (bytes_eq-Decides x y).1 (sym ((bytes_eq-Decides y x).0 e)) ∙ sym e

pub same : (x : List ℕ) → bytes_eq x x ≡ true
same x = (bytes_eq-Decides x x).1 refl

-- ---- another text

pub last_more : {X Y : Type 0} (f : X → Y) (xs : List X) (i : ℕ) (x : X) → i < length xs → x ≡ get_or xs i x → map f (take (i + 1) xs) ≡ map f (take i xs) ++ f x ∷ []
last_more f xs i x within is = ap (map f) (take_more xs i x within ∙ ap (λ y. take i xs ++ y ∷ []) (sym is)) ∙ map-append f (take i xs) (x ∷ [])

none : (s t : Bool) → t ≡ false → s ≡ (s || (t || false))
none true t e = refl
none false true e = sym e
none false false e = refl

-- a text that is inserted is in the set
pub one_more : {X V : Type 0} (f : X → List ℕ) (xs : List X) (i : ℕ) (x : X) (q key : List ℕ) (v : V) (old : Option V) → i < length xs → x ≡ get_or xs i x → key ≡ f x
    → is_some old ≡ list_any (bytes_eq q) (map f (take i xs)) → is_some (cond (bytes_eq key q) (Some v) old) ≡ list_any (bytes_eq q) (map f (take (i + 1) xs))
one_more f xs i x q key v old within is put before =
    by (bytes_eq key q) refl
    ∙ sym (ap (list_any (bytes_eq q)) (last_more f xs i x within is) ∙ list_any-append (bytes_eq q) (map f (take i xs)) (f x ∷ []))
  where
    at : bytes_eq q (f x) ≡ bytes_eq key q
    at = ap (bytes_eq q) (sym put) ∙ turned q key

    by : (t : Bool) → bytes_eq key q ≡ t → is_some (cond t (Some v) old) ≡ (list_any (bytes_eq q) (map f (take i xs)) || (bytes_eq q (f x) || false))
    by true e = sym (or_right (list_any (bytes_eq q) (map f (take i xs))) (bytes_eq q (f x) || false) (or_left (bytes_eq q (f x)) false (at ∙ e)))
    by false e = before ∙ none (list_any (bytes_eq q) (map f (take i xs))) (bytes_eq q (f x)) (at ∙ e)

-- ---- first occurrences

filter_more : (p : List ℕ → Bool) (zs : List (List ℕ)) (z : List ℕ) → p z ≡ false → filter p (zs ++ z ∷ []) ≡ filter p zs
filter_more p [] z e = rw e refl
filter_more p (w ∷ zs) z e = at (p w) (filter_more p zs z e)
  where
    at : (t : Bool) → filter p (zs ++ z ∷ []) ≡ filter p zs → cond t (w ∷ filter p (zs ++ z ∷ [])) (filter p (zs ++ z ∷ [])) ≡ cond t (w ∷ filter p zs) (filter p zs)
    at true h = ap (λ r. w ∷ r) h
    at false h = h

filter_most : (p : List ℕ → Bool) (zs : List (List ℕ)) (z : List ℕ) → p z ≡ true → filter p (zs ++ z ∷ []) ≡ filter p zs ++ z ∷ []
filter_most p [] z e = rw e refl
filter_most p (w ∷ zs) z e = at (p w) (filter_most p zs z e)
  where
    at : (t : Bool) → filter p (zs ++ z ∷ []) ≡ filter p zs ++ z ∷ [] → cond t (w ∷ filter p (zs ++ z ∷ [])) (filter p (zs ++ z ∷ [])) ≡ cond t (w ∷ filter p zs) (filter p zs) ++ z ∷ []
    at true h = ap (λ r. w ∷ r) h
    at false h = h

-- a text at the end is added if it is none of those before
distinct_more : (xs : List (List ℕ)) (x : List ℕ) → distinct (xs ++ x ∷ []) ≡ cond (list_any (bytes_eq x) xs) (distinct xs) (distinct xs ++ x ∷ [])
distinct_more [] x = refl
distinct_more (y ∷ ys) x = ap (λ zs. y ∷ filter (λ z. not (bytes_eq z y)) zs) (distinct_more ys x) ∙ by (list_any (bytes_eq x) ys) (bytes_eq x y) refl
  where
    by : (s t : Bool) → bytes_eq x y ≡ t
        → y ∷ filter (λ z. not (bytes_eq z y)) (cond s (distinct ys) (distinct ys ++ x ∷ [])) ≡ cond (t || s) (distinct (y ∷ ys)) (distinct (y ∷ ys) ++ x ∷ [])
    by true true e = refl
    by true false e = refl
    by false true e = ap (λ zs. y ∷ zs) (filter_more (λ z. not (bytes_eq z y)) (distinct ys) x (ap not e))
    by false false e = ap (λ zs. y ∷ zs) (filter_most (λ z. not (bytes_eq z y)) (distinct ys) x (ap not e))

pub distinct_next : {X : Type 0} (f : X → List ℕ) (xs : List X) (i : ℕ) (x : X) → i < length xs → x ≡ get_or xs i x
    → distinct (map f (take (i + 1) xs)) ≡ cond (list_any (bytes_eq (f x)) (map f (take i xs))) (distinct (map f (take i xs))) (distinct (map f (take i xs)) ++ f x ∷ [])
distinct_next f xs i x within is = ap distinct (last_more f xs i x within is) ∙ distinct_more (map f (take i xs)) (f x)

-- ---- properties of all texts, and members

filter_all : {X : Type 0} (p q : X → Bool) (xs : List X) → list_all p xs ≡ true → list_all p (filter q xs) ≡ true
filter_all p q [] all = refl
filter_all p q (x ∷ xs) all = let parts = and_parts (p x) (list_all p xs) all in at (q x) parts.0 (filter_all p q xs parts.1)
  where
    at : (t : Bool) → p x ≡ true → list_all p (filter q xs) ≡ true → list_all p (cond t (x ∷ filter q xs) (filter q xs)) ≡ true
    at true here rest = and_from _ _ here rest
    at false here rest = rest

-- a property of all texts is one of their first occurrences
pub distinct_all : (p : List ℕ → Bool) (xs : List (List ℕ)) → list_all p xs ≡ true → list_all p (distinct xs) ≡ true
distinct_all p [] all = refl
distinct_all p (x ∷ xs) all = let parts = and_parts (p x) (list_all p xs) all in and_from _ _ parts.0 (filter_all p (λ z. not (bytes_eq z x)) (distinct xs) (distinct_all p xs parts.1))

clash : false ≡ true → ⊥
clash h = cc

-- a text that differs from the removed ones stays
kept : (q x : List ℕ) (zs : List (List ℕ)) → bytes_eq q x ≡ false → list_any (bytes_eq q) zs ≡ true → list_any (bytes_eq q) (filter (λ z. not (bytes_eq z x)) zs) ≡ true
kept q x [] other there = absurd (clash there)
kept q x (z ∷ zs) other there = by (bytes_eq q z) (bytes_eq z x) refl refl there (λ h. kept q x zs other h)
  where
    by : (s t : Bool) → bytes_eq q z ≡ s → bytes_eq z x ≡ t → (s || list_any (bytes_eq q) zs) ≡ true
        → (list_any (bytes_eq q) zs ≡ true → list_any (bytes_eq q) (filter (λ w. not (bytes_eq w x)) zs) ≡ true)
        → list_any (bytes_eq q) (cond (not t) (z ∷ filter (λ w. not (bytes_eq w x)) zs) (filter (λ w. not (bytes_eq w x)) zs)) ≡ true
    by true true d e h rest = absurd (clash (sym other ∙ ap (λ y. bytes_eq y x) ((bytes_eq-Decides q z).0 d) ∙ e))
    by true false d e h rest = or_left (bytes_eq q z) _ d
    by false true d e h rest = rest h
    by false false d e h rest = or_right (bytes_eq q z) _ (rest h)

-- a text is among the first occurrences if it is among all texts
pub among_distinct : (q : List ℕ) (xs : List (List ℕ)) → list_any (bytes_eq q) xs ≡ true → list_any (bytes_eq q) (distinct xs) ≡ true
among_distinct q [] there = there
among_distinct q (x ∷ xs) there = by (bytes_eq q x) refl there (λ h. among_distinct q xs h)
  where
    by : (t : Bool) → bytes_eq q x ≡ t → (t || list_any (bytes_eq q) xs) ≡ true → (list_any (bytes_eq q) xs ≡ true → list_any (bytes_eq q) (distinct xs) ≡ true)
        → list_any (bytes_eq q) (distinct (x ∷ xs)) ≡ true
    by true e h rest = or_left (bytes_eq q x) _ e
    by false e h rest = or_right (bytes_eq q x) _ (kept q x (distinct xs) e (rest h))

weaker : {X : Type 0} (p q : X → Bool) (xs : List X) → ((x : X) → p x ≡ true → q x ≡ true) → list_all p xs ≡ true → list_all q xs ≡ true
weaker p q [] each all = refl
weaker p q (x ∷ xs) each all = let parts = and_parts (p x) (list_all p xs) all in and_from _ _ (each x parts.0) (weaker p q xs each parts.1)

-- each text is among all texts
pub all_among : (xs : List (List ℕ)) → list_all (λ x. list_any (bytes_eq x) xs) xs ≡ true
all_among [] = refl
all_among (x ∷ xs) =
    and_from _ _ (or_left (bytes_eq x x) _ (same x)) (weaker (λ y. list_any (bytes_eq y) xs) (λ y. list_any (bytes_eq y) (x ∷ xs)) xs (λ y h. or_right (bytes_eq y x) _ h) (all_among xs))

-- ---- lines of the first occurrences

as_lines_more : (xs : List (List ℕ)) (x : List ℕ) → as_lines (xs ++ x ∷ []) ≡ as_lines xs ++ as_line x
as_lines_more xs x = flat_map-append as_line xs (x ∷ []) ∙ ap (λ ys. as_lines xs ++ ys) (append_nothing (as_line x))
  where
    append_nothing : (ys : List ℕ) → ys ++ [] ≡ ys
    append_nothing [] = refl
    append_nothing (y ∷ ys) = ap (λ zs. y ∷ zs) (append_nothing ys)

-- a new text adds a line
pub line_more : {X : Type 0} (f : X → List ℕ) (xs : List X) (i : ℕ) (x : X) (key lines next : List ℕ) (has : Bool) → i < length xs → x ≡ get_or xs i x → key ≡ f x
    → has ≡ list_any (bytes_eq key) (map f (take i xs)) → has ≡ false → lines ≡ as_lines (distinct (map f (take i xs))) → next ≡ lines ++ as_line (f x)
    → next ≡ as_lines (distinct (map f (take (i + 1) xs)))
line_more f xs i x key lines next has within is put there absent before more =
    more ∙ ap (λ ls. ls ++ as_line (f x)) before ∙ sym (as_lines_more (distinct (map f (take i xs))) (f x))
    ∙ sym (ap as_lines (distinct_next f xs i x within is
    ∙ ap (λ b. cond b (distinct (map f (take i xs))) (distinct (map f (take i xs)) ++ f x ∷ [])) (ap (λ k. list_any (bytes_eq k) (map f (take i xs))) (sym put) ∙ sym there ∙ absent)))

-- a text that is not new adds none
pub line_same : {X : Type 0} (f : X → List ℕ) (xs : List X) (i : ℕ) (x : X) (key lines : List ℕ) (has : Bool) → i < length xs → x ≡ get_or xs i x → key ≡ f x
    → has ≡ list_any (bytes_eq key) (map f (take i xs)) → has ≡ true → lines ≡ as_lines (distinct (map f (take i xs)))
    → lines ≡ as_lines (distinct (map f (take (i + 1) xs)))
line_same f xs i x key lines has within is put there present before =
    before
    ∙ sym (ap as_lines (distinct_next f xs i x within is
    ∙ ap (λ b. cond b (distinct (map f (take i xs))) (distinct (map f (take i xs)) ++ f x ∷ [])) (ap (λ k. list_any (bytes_eq k) (map f (take i xs))) (sym put) ∙ sym there ∙ present)))

-- ---- the first element that passes a test

pub find_same : {X : Type 0} (p q : X → Bool) (xs : List X) → ((x : X) → p x ≡ q x) → find p xs ≡ find q xs
find_same p q [] each = refl
find_same p q (x ∷ xs) each = ap (λ b. cond b (Some x) (find p xs)) (each x) ∙ ap (λ o. cond (q x) (Some x) o) (find_same p q xs each)

-- ---- the findings that are left

at_last : (t : Bool) (row : Row) → cond (not t) (row ∷ []) [] ≡ unless t row
at_last true row = refl
at_last false row = refl

one_before : (t : Bool) (r : Row) (longer shorter end : List Row) → longer ≡ shorter ++ end → cond (not t) (r ∷ longer) longer ≡ cond (not t) (r ∷ shorter) shorter ++ end
one_before true r longer shorter end h = h
one_before false r longer shorter end h = ap (λ qs. r ∷ qs) h

at_end : (lines : List Line) (row : Row) (rs : List Row) → filter (λ r. not (is_accepted lines r)) (rs ++ row ∷ []) ≡ filter (λ r. not (is_accepted lines r)) rs ++ unless (is_accepted lines row) row
at_end lines row [] = at_last (is_accepted lines row) row
at_end lines row (r ∷ rs) =
    one_before (is_accepted lines r) r (filter (λ q. not (is_accepted lines q)) (rs ++ row ∷ [])) (filter (λ q. not (is_accepted lines q)) rs) (unless (is_accepted lines row) row) (at_end lines row rs)

-- one more finding
pub filter_next : (lines : List Line) (rows : List Row) (i : ℕ) (row : Row) → i < length rows → row ≡ get_or rows i row
    → filter (λ r. not (is_accepted lines r)) (take (i + 1) rows) ≡ filter (λ r. not (is_accepted lines r)) (take i rows) ++ unless (is_accepted lines row) row
filter_next lines rows i row within is =
    ap (filter (λ (r : Row). not (is_accepted lines r))) (take_more rows i row within ∙ ap (λ r. take i rows ++ r ∷ []) (sym is)) ∙ at_end lines row (take i rows)
