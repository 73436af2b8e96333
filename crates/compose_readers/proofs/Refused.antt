-- Why a table is refused, line after line.
use Rattle.std.proofs.Common.{◌≡◌, ◌∙◌, ℕ, zero, suc, ◌+◌, ◌-◌, ◌<◌, ◌≤◌, List, [], ◌∷◌, Bool, true, false, cond, length, drop, get_or, refl, sym, ap, arith}
use Rattle.std.specs.Prelude.{Option, Some, None, nat_lt, slice_get}
use Rattle.std.specs.Option.{option_map_or, option_or, option_and_then}
use Rattle.std.proofs.lemmas.Bool.{lt-ltb, ltb-true}
use Rattle.std.proofs.lemmas.List.{drop_more}
use Rattle.compose_readers.specs.Files.{LineEnd, nothing, left_out, includes, LineRead, FileRead}
use Rattle.compose_readers.specs.Walks.{lines_at, index_of}
use Rattle.compose_readers.specs.Refusals.{faults_at, refusal_of, refusal_at, refusal_file, refusal_below, refusal_from}
use Rattle.compose_readers.specs.declared.cause.Cause.{Cause}
use Rattle.compose_readers.specs.declared.walking.Refusal.{Refusal}
use Rattle.compose_readers.specs.declared.walking.Refusal.TheVariants.{Unread, Depth, Faults}

-- ---- a line

over : (m n : ℕ) → m < n → nat_lt m n ≡ true
over m n h = lt-ltb m n h

within : (m n : ℕ) → n ≤ m → nat_lt m n ≡ false
within m n h = by (nat_lt m n) refl
  where
    by : (b : Bool) → nat_lt m n ≡ b → b ≡ false
    by true e = let l = ltb-true m n e in absurd (omega (arith, h, l))
    by false e = refl

module _ (most : ℕ) (inside : LineEnd → Option Refusal) (lines : List LineRead) (at faults : ℕ) (d : LineRead) (whole : Option Refusal) (is_line : at < length lines)
    (so_far : refusal_of most inside faults (drop at lines) ≡ whole) where
  one : (b : Bool) → nat_lt most (faults + faults_at (get_or lines at d).end) ≡ b → cond b (Some Faults) (option_or (inside (get_or lines at d).end) (refusal_of most inside (faults + faults_at (get_or lines at d).end) (drop (at + 1) lines))) ≡ whole
  one b e =
      sym (ap (refusal_of most inside faults) (drop_more lines at d is_line)
      ∙ ap (λ c. cond c (Some Faults) (option_or (inside (get_or lines at d).end) (refusal_of most inside (faults + faults_at (get_or lines at d).end) (drop (at + 1) lines)))) e)
      ∙ so_far

  -- too many faulty lines
  pub refused_faults : most < faults + faults_at (get_or lines at d).end → whole ≡ Some Faults
  refused_faults h = sym (one true (over most (faults + faults_at (get_or lines at d).end) h))

  -- a file that the line includes
  pub refused_inside : (refusal : Refusal) → faults + faults_at (get_or lines at d).end ≤ most → inside (get_or lines at d).end ≡ Some refusal → whole ≡ Some refusal
  refused_inside refusal h e =
      sym (one false (within most (faults + faults_at (get_or lines at d).end) h))
      ∙ ap (λ o. option_or o (refusal_of most inside (faults + faults_at (get_or lines at d).end) (drop (at + 1) lines))) e

  -- neither
  pub refused_more : faults + faults_at (get_or lines at d).end ≤ most → inside (get_or lines at d).end ≡ None
      → refusal_of most inside (faults + faults_at (get_or lines at d).end) (drop (at + 1) lines) ≡ whole
  refused_more h e =
      sym (ap (λ o. option_or o (refusal_of most inside (faults + faults_at (get_or lines at d).end) (drop (at + 1) lines))) e)
      ∙ one false (within most (faults + faults_at (get_or lines at d).end) h)

-- ---- a file

-- no line is left
pub refused_none : (most : ℕ) (inside : LineEnd → Option Refusal) (lines : List LineRead) (at faults : ℕ) (whole : Option Refusal) → length lines ≤ at
    → refusal_of most inside faults (drop at lines) ≡ whole → whole ≡ None
refused_none most inside [] zero faults whole long so_far = sym so_far
refused_none most inside [] (suc at) faults whole long so_far = sym so_far
refused_none most inside (r ∷ lines) zero faults whole long so_far = absurd (omega (arith, long))
refused_none most inside (r ∷ lines) (suc at) faults whole long so_far = refused_none most inside lines at faults whole (omega (arith, long)) so_far

-- its own refusal
pub refused_at : (files : List FileRead) (index : ℕ) (d : FileRead) → index < length files → refusal_at files index ≡ (get_or files index d).refusal
refused_at [] index d within = absurd (omega arith)
refused_at (f ∷ files) zero d within = refl
refused_at (f ∷ files) (suc index) d within = refused_at files index d (omega arith)

-- a file that isn't refused itself
pub refused_file : (files : List FileRead) (most : ℕ) (inside : LineEnd → Option Refusal) (index : ℕ) → refusal_at files index ≡ None
    → refusal_of most inside 0 (lines_at files index) ≡ refusal_file files most inside index
refused_file files most inside index e = sym (ap (λ o. option_or o (refusal_of most inside 0 (lines_at files index))) e)

-- ---- includes

pub refusal_nothing : (files : List FileRead) (most left : ℕ) → refusal_below files most left nothing ≡ None
refusal_nothing files most zero = refl
refusal_nothing files most (suc left) = refl

pub refusal_left_out : (files : List FileRead) (most left : ℕ) (cause : Cause) → refusal_below files most left (left_out cause) ≡ None
refusal_left_out files most zero cause = refl
refusal_left_out files most (suc left) cause = refl

-- a file that is there
pub refusal_one : (files : List FileRead) (most left : ℕ) (path : List ℕ) (index : ℕ) → 0 < left → index_of files path ≡ Some index
    → refusal_below files most left (includes path) ≡ refusal_from files most (left - 1) index
refusal_one files most zero path index more is = absurd (omega arith)
refusal_one files most (suc left) path index more is =
    let one : left ≡ suc left - 1 = omega arith in
    ap (λ (o : Option ℕ). option_map_or (refusal_file files most (refusal_below files most left)) o (Some Unread)) is ∙ ap (λ m. refusal_from files most m index) one

-- one that isn't there
pub refusal_unread : (files : List FileRead) (most left : ℕ) (path : List ℕ) → 0 < left → index_of files path ≡ None → refusal_below files most left (includes path) ≡ Some Unread
refusal_unread files most zero path more is = absurd (omega arith)
refusal_unread files most (suc left) path more is = ap (λ (o : Option ℕ). option_map_or (refusal_file files most (refusal_below files most left)) o (Some Unread)) is
