-- Longer sequences, when a line is added before others, and when a prefix of its sequence is added.
use Rattle.std.proofs.Common.{◌≡◌, ◌∙◌, ℕ, suc, zero, ◌+◌, ◌<◌, List, [], ◌∷◌, ◌++◌, Bool, true, false, cond, ◌&&◌, ◌||◌, not, length, take, drop, get_or, reverse, refl, sym, ap, ap₂, inl, inr, arith, eqb-true}
use Rattle.std.specs.Prelude.{Option, Some, None, is_some, bytes_eq, ◌==◌}
use Rattle.std.specs.List.{find}
use Rattle.std.specs.Option.{option_map, option_map_or, option_or}
use Rattle.std.proofs.lemmas.Bool.{and_parts, and_from, or_left, or_cases}
use Rattle.std.proofs.lemmas.Slice.Eq.{bytes_eq-Decides}
use Rattle.std.proofs.lemmas.Grind.{flat_map-append}
use Rattle.std.proofs.lemmas.List.{append-nil, take_more, drop_more, reverse-append}
use Rattle.std.proofs.lemmas.List.Folds.{find-append}
use Rattle.compose_model.specs.Table.{Definition, is_proper_prefix}
use Rattle.compose_lint.specs.Lines.{LintLine, SourceLines, all_lines}
use Rattle.compose_lint.specs.Longer.{extends, place_of, longer_place, IsClosed}
use Rattle.compose_lint.specs.declared.finding.LinePlace.{LinePlace}

-- ---- another prefix

same_eq : (j k : ℕ) → (j == k) ≡ (k == j)
same_eq j k = grind arith

both : (a b c : Bool) → (a && (b || c)) ≡ ((a && b) || (a && c))
both true b c = refl
both false b c = refl

-- what begins with one element more has this beginning as a proper prefix, or one of this
pub prefix_more : (t q : List ℕ) (n : ℕ) → n < length t → is_proper_prefix q (take (suc n) t) ≡ (bytes_eq (take n t) q || is_proper_prefix q (take n t))
prefix_more [] q n within = absurd (omega arith)
prefix_more (k ∷ t) [] zero within = refl
prefix_more (k ∷ t) (j ∷ q) zero within = by (j == k)
  where
    by : (b : Bool) → (b && false) ≡ false
    by true = refl
    by false = refl
prefix_more (k ∷ t) [] (suc n) within = refl
prefix_more (k ∷ t) (j ∷ q) (suc n) within =
    ap (λ b. j == k && b) (prefix_more t q n (omega arith))
    ∙ both (j == k) (bytes_eq (take n t) q) (is_proper_prefix q (take n t))
    ∙ ap (λ b. (b && bytes_eq (take n t) q) || (j == k && is_proper_prefix q (take n t))) (same_eq j k)

-- ---- proper prefixes

none : (b : Bool) → (b && false) ≡ false
none true = refl
none false = refl

-- of proper prefixes
pub prefix_trans : (p q s : List ℕ) → is_proper_prefix p q ≡ true → is_proper_prefix q s ≡ true → is_proper_prefix p s ≡ true
prefix_trans p q [] a b = cc
prefix_trans p [] (k ∷ s) a b = cc
prefix_trans [] (j ∷ q) (k ∷ s) a b = refl
prefix_trans (i ∷ p) (j ∷ q) (k ∷ s) a b =
    let g = and_parts (i == j) (is_proper_prefix p q) a in let h = and_parts (j == k) (is_proper_prefix q s) b in
    and_from (i == k) (is_proper_prefix p s) (ap (λ m. m == k) (eqb-true i j g.0) ∙ h.0) (prefix_trans p q s g.1 h.1)

-- a sequence is none of itself
not_itself : (q : List ℕ) → is_proper_prefix q q ≡ false
not_itself [] = refl
not_itself (k ∷ q) = ap (λ b. k == k && b) (not_itself q) ∙ none (k == k)

-- its beginning is one
beginning : (t : List ℕ) (n : ℕ) → n < length t → is_proper_prefix (take n t) t ≡ true
beginning [] n within = absurd (omega arith)
beginning (k ∷ t) zero within = refl
beginning (k ∷ t) (suc n) within = and_from (k == k) (is_proper_prefix (take n t) t) (grind arith) (beginning t n (omega arith))

-- ---- the prefixes of one sequence, the longest first

-- a proper prefix of at least this length
abbrev pub is_from : List ℕ → ℕ → List ℕ → Bool
is_from t n q = is_proper_prefix q t && not (is_proper_prefix q (take n t))

or_none : (o : Option LinePlace) → option_or o None ≡ o
or_none None = refl
or_none (Some x) = refl

or_some : (o a b : Option LinePlace) → is_some o ≡ true → option_or o a ≡ option_or o b
or_some None a b e = cc
or_some (Some x) a b e = refl

no_place : (o a : Option LinePlace) → is_some (option_or o a) ≡ false → o ≡ None
no_place None a e = refl
no_place (Some x) a e = cc

-- what begins with one element more has this beginning as a proper prefix, or one of this
more_at : (t q : List ℕ) (n : ℕ) → n < length t → is_proper_prefix q (take (n + 1) t) ≡ (bytes_eq (take n t) q || is_proper_prefix q (take n t))
more_at t q n within = let one : n + 1 ≡ suc n = omega arith in ap (λ m. is_proper_prefix q (take m t)) one ∙ prefix_more t q n within

module _ (f : List ℕ → Option LinePlace) (t : List ℕ) (n : ℕ) (place : LinePlace) (within : n < length t) where
  -- the longest one that is left has its old place
  old_place : (o : Option LinePlace) → o ≡ option_or (f (take n t)) (cond (is_from t (n + 1) (take n t)) (Some place) None) → o ≡ f (take n t)
  old_place o is =
      is
      ∙ ap (λ b. option_or (f (take n t)) (cond (is_proper_prefix (take n t) t && not b) (Some place) None))
      (more_at t (take n t) n within ∙ or_left (bytes_eq (take n t) (take n t)) _ ((bytes_eq-Decides (take n t) (take n t)).1 refl))
      ∙ ap (λ b. option_or (f (take n t)) (cond b (Some place) None)) (none (is_proper_prefix (take n t) t))
      ∙ or_none (f (take n t))

  -- one more gets the place
  pub one_from : (q : List ℕ) (o now after : Option LinePlace) → o ≡ option_or (f (take n t)) (cond (is_from t (n + 1) (take n t)) (Some place) None) → is_some o ≡ false
      → now ≡ option_or (f q) (cond (is_from t (n + 1) q) (Some place) None) → after ≡ cond (bytes_eq (take n t) q) (Some place) now
      → after ≡ option_or (f q) (cond (is_from t n q) (Some place) None)
  one_from q o now after is absent before put = put ∙ by (bytes_eq (take n t) q) refl
    where
      by : (b : Bool) → bytes_eq (take n t) q ≡ b → cond b (Some place) now ≡ option_or (f q) (cond (is_from t n q) (Some place) None)
      by true e =
          let same : take n t ≡ q = (bytes_eq-Decides (take n t) q).0 e in
          let empty : f (take n t) ≡ None = sym (old_place o is) ∙ no_place o None (ap is_some (or_none o) ∙ absent) in
          sym (ap (λ p. option_or (f p) (cond (is_from t n p) (Some place) None)) (sym same)
          ∙ ap₂ (λ p b. option_or p (cond b (Some place) None)) empty
          (and_from (is_proper_prefix (take n t) t) (not (is_proper_prefix (take n t) (take n t))) (beginning t n within) (ap not (not_itself (take n t)))))
      by false e =
          before ∙ ap (λ b. option_or (f q) (cond (is_proper_prefix q t && not b) (Some place) None)) (more_at t q n within ∙ ap (λ b. b || is_proper_prefix q (take n t)) e)

  -- it has a place, and so have the shorter ones
  pub stopped : IsClosed f → (q : List ℕ) (o now : Option LinePlace) → o ≡ option_or (f (take n t)) (cond (is_from t (n + 1) (take n t)) (Some place) None) → is_some o ≡ true
      → now ≡ option_or (f q) (cond (is_from t (n + 1) q) (Some place) None)
      → now ≡ option_or (f q) (cond (is_proper_prefix q t) (Some place) None)
  stopped closed q o now is there before = before ∙ by (is_proper_prefix q t) (is_proper_prefix q (take (n + 1) t)) refl
    where
      has : is_some (f (take n t)) ≡ true
      has = ap is_some (sym (old_place o is)) ∙ there

      has_old : is_proper_prefix q (take (n + 1) t) ≡ true → is_some (f q) ≡ true
      has_old e = elim (or_cases (bytes_eq (take n t) q) (is_proper_prefix q (take n t)) (sym (more_at t q n within) ∙ e)) [
        | inl same ↦ ap (λ p. is_some (f p)) (sym ((bytes_eq-Decides (take n t) q).0 same)) ∙ has
        | inr shorter ↦ closed q (take n t) shorter has
      ]

      by : (a b : Bool) → is_proper_prefix q (take (n + 1) t) ≡ b → option_or (f q) (cond (a && not b) (Some place) None) ≡ option_or (f q) (cond a (Some place) None)
      by false b e = refl
      by true false e = refl
      by true true e = or_some (f q) None (Some place) (has_old e)

-- ---- several lines

pub map_or : (a b : Option LintLine) → option_map place_of (option_or a b) ≡ option_or (option_map place_of a) (option_map place_of b)
map_or None b = refl
map_or (Some a) b = refl

-- among several lines, later ones go first
pub longer_of_both : (xs ys : List LintLine) (s : List ℕ) → longer_place (xs ++ ys) s ≡ option_or (longer_place ys s) (longer_place xs s)
longer_of_both xs ys s =
    ap (λ ls. option_map place_of (find (extends s) ls)) (reverse-append xs ys)
    ∙ ap (option_map place_of) (find-append (extends s) (reverse ys) (reverse xs))
    ∙ map_or (find (extends s) (reverse ys)) (find (extends s) (reverse xs))

-- ---- another file

pub lines_more : (files : List SourceLines) (i : ℕ) (d : SourceLines) → i < length files → all_lines (take (i + 1) files) ≡ all_lines (take i files) ++ (get_or files i d).lines
lines_more files i d within =
    ap all_lines (take_more files i d within) ∙ flat_map-append (λ (f : SourceLines). f.lines) (take i files) (get_or files i d ∷ []) ∙ ap (λ ls. all_lines (take i files) ++ ls) (append-nil (get_or files i d).lines)

-- ---- lines that precede those added before

or_assoc : (a b c : Option LinePlace) → option_or (option_or a b) c ≡ option_or a (option_or b c)
or_assoc None b c = refl
or_assoc (Some a) b c = refl

pub line_before : (lines : List LintLine) (at : ℕ) (d : LintLine) (q : List ℕ) (after before old : Option LinePlace) → at < length lines
    → after ≡ option_or before (longer_place (get_or lines at d ∷ []) q) → before ≡ option_or old (longer_place (drop (at + 1) lines) q)
    → after ≡ option_or old (longer_place (drop at lines) q)
line_before lines at d q after before old within put so_far =
    put ∙ ap (λ o. option_or o (longer_place (get_or lines at d ∷ []) q)) so_far
    ∙ or_assoc old (longer_place (drop (at + 1) lines) q) (longer_place (get_or lines at d ∷ []) q)
    ∙ ap (option_or old) (sym (ap (λ ls. longer_place ls q) (drop_more lines at d within) ∙ longer_of_both (get_or lines at d ∷ []) (drop (at + 1) lines) q))

pub file_before : (files : List SourceLines) (at : ℕ) (d : SourceLines) (q : List ℕ) (after before : Option LinePlace) → at < length files
    → after ≡ option_or before (longer_place (get_or files at d).lines q) → before ≡ longer_place (all_lines (drop (at + 1) files)) q
    → after ≡ longer_place (all_lines (drop at files)) q
file_before files at d q after before within put so_far =
    put ∙ ap (λ o. option_or o (longer_place (get_or files at d).lines q)) so_far
    ∙ sym (ap (λ fs. longer_place (all_lines fs) q) (drop_more files at d within) ∙ longer_of_both (get_or files at d).lines (all_lines (drop (at + 1) files)) q)

-- ---- a sequence with a place has proper prefixes with a place

find_from : (t u : LintLine → Bool) (ls : List LintLine) → ((l : LintLine) → t l ≡ true → u l ≡ true) → is_some (option_map place_of (find t ls)) ≡ true → is_some (option_map place_of (find u ls)) ≡ true
find_from t u [] each e = e
find_from t u (l ∷ ls) each e = by (t l) (u l) refl refl e (λ h. find_from t u ls each h)
  where
    by : (a b : Bool) → t l ≡ a → u l ≡ b → is_some (option_map place_of (cond a (Some l) (find t ls))) ≡ true
        → (is_some (option_map place_of (find t ls)) ≡ true → is_some (option_map place_of (find u ls)) ≡ true)
        → is_some (option_map place_of (cond b (Some l) (find u ls))) ≡ true
    by a true d f h rest = refl
    by true false d f h rest = let x = each l d in let y : true ≡ false = sym x ∙ f in cc
    by false false d f h rest = rest h

extends_too : (p q : List ℕ) (l : LintLine) → is_proper_prefix p q ≡ true → extends q l ≡ true → extends p l ≡ true
extends_too p q l a = by l.definition
  where
    by : (o : Option Definition) → option_map_or (λ d. is_proper_prefix q d.sequence) o false ≡ true → option_map_or (λ d. is_proper_prefix p d.sequence) o false ≡ true
    by None e = e
    by (Some d) e = prefix_trans p q d.sequence a e

pub longer_closed : (lines : List LintLine) (f : List ℕ → Option LinePlace) → ((q : List ℕ) → f q ≡ longer_place lines q) → IsClosed f
longer_closed lines f is = λ p q shorter there. ap is_some (is p) ∙ find_from (extends q) (extends p) (reverse lines) (λ l e. extends_too p q l shorter e) (ap is_some (sym (is q)) ∙ there)

pub more_closed : (lines : List LintLine) (old f : List ℕ → Option LinePlace) → ((q : List ℕ) → f q ≡ option_or (old q) (longer_place lines q)) → IsClosed old → IsClosed f
more_closed lines old f is closed = λ p q shorter there. ap is_some (is p) ∙ by (old q) (old p) (longer_place lines q) (longer_place lines p) (closed p q shorter) (longer_closed lines (longer_place lines) (λ s. refl) p q shorter) (ap is_some (sym (is q)) ∙ there)
  where
    by : (a b c d : Option LinePlace) → (is_some a ≡ true → is_some b ≡ true) → (is_some c ≡ true → is_some d ≡ true) → is_some (option_or a c) ≡ true → is_some (option_or b d) ≡ true
    by a (Some x) c d one other e = refl
    by None None c d one other e = other e
    by (Some y) None c d one other e = let h : false ≡ true = one refl in cc
