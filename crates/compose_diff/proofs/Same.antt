-- If the test passes, what rows have in common is the same.
use Rattle.std.proofs.Common.{◌≡◌, ℕ, Bool, true, false, List, [], ◌∷◌, refl, sym, ◌∙◌, ap, ap₂, eqb-true}
use Rattle.std.specs.Prelude.{◌==◌, ◌&&◌, nat_eq, bytes_eq, Option, Some, None}
use Rattle.std.specs.Option.{option_map_or, option_eq}
use Rattle.std.specs.Cmp.Lexicographic.{pointwise}
use Rattle.std.proofs.lemmas.Bool.{and_parts, and_from, eq-eqb}
use Rattle.std.proofs.lemmas.Slice.Eq.{bytes_eq-Decides}
use Rattle.compose_diff.specs.declared.row.DiffRow.{DiffRow}
use Rattle.compose_diff.specs.Groups.{Common, common, are_same, has, folds_with}

-- two tests, each of which passes if the other one does
pub bool_eq : (a b : Bool) → (a ≡ true → b ≡ true) → (b ≡ true → a ≡ true) → a ≡ b
bool_eq true b f g = sym (f refl)
bool_eq false true f g = g refl
bool_eq false false f g = refl

same_lists : (xs ys : List (List ℕ)) → pointwise bytes_eq xs ys ≡ true → xs ≡ ys
same_lists [] [] e = refl
same_lists [] (y ∷ ys) e = let clash : false ≡ true = e in cc
same_lists (x ∷ xs) [] e = let clash : false ≡ true = e in cc
same_lists (x ∷ xs) (y ∷ ys) e =
    let parts = and_parts (bytes_eq x y) (pointwise bytes_eq xs ys) e in
    ap₂ (λ a b. a ∷ b) ((bytes_eq-Decides x y).0 parts.0) (same_lists xs ys parts.1)

lists_same : (xs : List (List ℕ)) → pointwise bytes_eq xs xs ≡ true
lists_same [] = refl
lists_same (x ∷ xs) = and_from (bytes_eq x x) _ ((bytes_eq-Decides x x).1 refl) (lists_same xs)

same_sources : (a b : Option ℕ) → option_eq nat_eq a b ≡ true → a ≡ b
same_sources None None e = refl
same_sources None (Some m) e = let clash : false ≡ true = e in cc
same_sources (Some n) None e = let clash : false ≡ true = e in cc
same_sources (Some n) (Some m) e = ap (λ x. Some x) (eqb-true n m e)

sources_same : (a : Option ℕ) → option_eq nat_eq a a ≡ true
sources_same None = refl
sources_same (Some n) = eq-eqb n n refl

pub are_one : (a b : Common) → are_same a b ≡ true → a ≡ b
are_one a b e =
    let outer = and_parts (a.change == b.change && option_eq nat_eq a.source b.source) (pointwise bytes_eq a.keys b.keys) e in
    let inner = and_parts (a.change == b.change) (option_eq nat_eq a.source b.source) outer.0 in
    let c = eqb-true a.change b.change inner.0 in
    let s = same_sources a.source b.source inner.1 in
    let k = same_lists a.keys b.keys outer.1 in
    λ j. record { change = c j; source = s j; keys = k j }

pub one_is_same : (a : Common) → are_same a a ≡ true
one_is_same a = and_from (a.change == a.change && option_eq nat_eq a.source a.source) _ (and_from (a.change == a.change) _ (eq-eqb a.change a.change refl) (sources_same a.source)) (lists_same a.keys)

pub same_too : (a b : Common) → are_same a b ≡ are_same b a
same_too a b =
    bool_eq (are_same a b) (are_same b a) (λ e. ap (λ x. are_same x a) (sym (are_one a b e)) ∙ one_is_same a) (λ e. ap (λ x. are_same x b) (sym (are_one b a e)) ∙ one_is_same b)

-- ---- rows

module _ (gone : ℕ → Bool) where
  -- a row has in common what it has
  pub has_it : (what : Common) (row : DiffRow) → has gone what row ≡ true → common gone row ≡ Some what
  has_it what row = by (common gone row)
    where
      by : (o : Option Common) → option_map_or (are_same what) o false ≡ true → o ≡ Some what
      by None e = let clash : false ≡ true = e in cc
      by (Some other) e = ap (λ x. Some x) (sym (are_one what other e))

  pub it_has : (what : Common) (row : DiffRow) → common gone row ≡ Some what → has gone what row ≡ true
  it_has what row e = ap (λ o. option_map_or (are_same what) o false) e ∙ one_is_same what

  pub folds_by : (row other : DiffRow) (what : Common) → common gone row ≡ Some what → folds_with gone row other ≡ has gone what other
  folds_by row other what e = ap (λ o. option_map_or (λ w. has gone w other) o false) e

  pub folds_none : (row other : DiffRow) → common gone row ≡ None → folds_with gone row other ≡ false
  folds_none row other e = ap (λ o. option_map_or (λ w. has gone w other) o false) e

  pub none_folds : (row other : DiffRow) → common gone other ≡ None → folds_with gone row other ≡ false
  none_folds row other e = by (common gone row)
    where
      by : (o : Option Common) → option_map_or (λ w. has gone w other) o false ≡ false
      by None = refl
      by (Some w) = ap (λ o. option_map_or (are_same w) o false) e

  -- rows that fold together have the same in common
  pub folds_same : (row other : DiffRow) → folds_with gone row other ≡ true → common gone row ≡ common gone other
  folds_same row other = by (common gone row) refl
    where
      by : (o : Option Common) → common gone row ≡ o → option_map_or (λ w. has gone w other) o false ≡ true → o ≡ common gone other
      by None e f = let clash : false ≡ true = f in cc
      by (Some w) e f = sym (has_it w other f)

  -- it makes no difference which of the two folds with the other
  pub folds_too : (row other : DiffRow) → folds_with gone row other ≡ folds_with gone other row
  folds_too row other = bool_eq _ _ (one_way row other) (one_way other row)
    where
      one_way : (a b : DiffRow) → folds_with gone a b ≡ true → folds_with gone b a ≡ true
      one_way a b f = by (common gone a) refl
        where
          by : (o : Option Common) → common gone a ≡ o → folds_with gone b a ≡ true
          by None e = let clash : false ≡ true = sym (folds_none a b e) ∙ f in cc
          by (Some w) e = folds_by b a w (sym (folds_same a b f) ∙ e) ∙ it_has w a e
