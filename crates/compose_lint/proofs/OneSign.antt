-- Signs and the bytes `<`, looked for byte by byte.
use Rattle.std.proofs.Common.{◌≡◌, ◌≢◌, ◌∙◌, ℕ, suc, ◌+◌, ◌<◌, List, ◌∷◌, Bool, true, false, cond, ◌||◌, length, drop, get_or, drop-cons, refl, sym, ap, eqb-true, arith}
use Rattle.std.specs.Prelude.{◌==◌}
use Rattle.compose_lint.specs.Lost.{is_sign, has_sign_after, openings}

or_assoc : (a b c : Bool) → ((a || b) || c) ≡ (a || (b || c))
or_assoc true b c = refl
or_assoc false b c = refl

rest_at : (line : List ℕ) (i : ℕ) → i < length line → drop i line ≡ get_or line i 0 ∷ drop (i + 1) line
rest_at line i within = let one : suc i ≡ i + 1 = omega arith in drop-cons line i 0 within ∙ ap (λ n. get_or line i 0 ∷ drop n line) one

-- one byte further
pub one_sign : (line : List ℕ) (i first : ℕ) (found whole : Bool) → i < length line → (found || has_sign_after first (drop i line)) ≡ whole
    → ((found || is_sign first (get_or line i 0)) || has_sign_after (get_or line i 0) (drop (i + 1) line)) ≡ whole
one_sign line i first found whole within before =
    or_assoc found (is_sign first (get_or line i 0)) (has_sign_after (get_or line i 0) (drop (i + 1) line))
    ∙ ap (λ bytes. found || has_sign_after first bytes) (sym (rest_at line i within)) ∙ before

openings_at : (line : List ℕ) (i : ℕ) (t : Bool) → i < length line → (get_or line i 0 == 60) ≡ t
    → openings (drop i line) ≡ cond t (1 + openings (drop (i + 1) line)) (openings (drop (i + 1) line))
openings_at line i t within is = ap openings (rest_at line i within) ∙ ap (λ t. cond t (1 + openings (drop (i + 1) line)) (openings (drop (i + 1) line))) is

-- past a `<`, and past another byte
pub one_opening : (line : List ℕ) (i count whole : ℕ) → i < length line → get_or line i 0 ≡ 60 → count + openings (drop i line) ≡ whole
    → (count + 1) + openings (drop (i + 1) line) ≡ whole
one_opening line i count whole within is before = let at = openings_at line i true within (ap (λ b. b == 60) is) in omega (arith, at, before)

pub no_opening : (line : List ℕ) (i count whole : ℕ) → i < length line → get_or line i 0 ≢ 60 → count + openings (drop i line) ≡ whole
    → count + openings (drop (i + 1) line) ≡ whole
no_opening line i count whole within isnt before =
    let at = openings_at line i false within (by (get_or line i 0 == 60) refl) in omega (arith, at, before)
  where
    by : (t : Bool) → (get_or line i 0 == 60) ≡ t → (get_or line i 0 == 60) ≡ false
    by true e = absurd (isnt (eqb-true (get_or line i 0) 60 e))
    by false e = e
