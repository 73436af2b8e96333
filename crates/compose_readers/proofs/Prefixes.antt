-- The beginnings of a sequence, one key after another.
use Rattle.std.proofs.Common.{◌≡◌, ◌∙◌, ℕ, suc, zero, ◌+◌, ◌<◌, List, [], ◌∷◌, Bool, true, false, cond, ◌&&◌, ◌||◌, length, take, refl, sym, ap, arith}
use Rattle.std.specs.Prelude.{Option, Some, None, bytes_eq, ◌==◌}
use Rattle.compose_model.specs.Table.{is_proper_prefix}

same_eq : (j k : ℕ) → (j == k) ≡ (k == j)
same_eq j k = grind arith

both : (a b c : Bool) → (a && (b || c)) ≡ ((a && b) || (a && c))
both true b c = refl
both false b c = refl

-- what begins with one key more has this beginning as a proper prefix, or one of this
prefix_suc : (t q : List ℕ) (n : ℕ) → n < length t → is_proper_prefix q (take (suc n) t) ≡ (bytes_eq (take n t) q || is_proper_prefix q (take n t))
prefix_suc [] q n within = absurd (omega arith)
prefix_suc (k ∷ t) [] zero within = refl
prefix_suc (k ∷ t) (j ∷ q) zero within = by (j == k)
  where
    by : (b : Bool) → (b && false) ≡ false
    by true = refl
    by false = refl
prefix_suc (k ∷ t) [] (suc n) within = refl
prefix_suc (k ∷ t) (j ∷ q) (suc n) within =
    ap (λ b. j == k && b) (prefix_suc t q n (omega arith))
    ∙ both (j == k) (bytes_eq (take n t) q) (is_proper_prefix q (take n t))
    ∙ ap (λ b. (b && bytes_eq (take n t) q) || (j == k && is_proper_prefix q (take n t))) (same_eq j k)

prefix_more : (t q : List ℕ) (n : ℕ) → n < length t → is_proper_prefix q (take (n + 1) t) ≡ (bytes_eq (take n t) q || is_proper_prefix q (take n t))
prefix_more t q n within = let one : n + 1 ≡ suc n = omega arith in ap (λ m. is_proper_prefix q (take m t)) one ∙ prefix_suc t q n within

-- one beginning more is set
pub one_set : (t q : List ℕ) (n index : ℕ) (now after old : Option ℕ) → n < length t → now ≡ cond (is_proper_prefix q (take n t)) (Some index) old
    → after ≡ cond (bytes_eq (take n t) q) (Some index) now → after ≡ cond (is_proper_prefix q (take (n + 1) t)) (Some index) old
one_set t q n index now after old within so_far put =
    put ∙ ap (cond (bytes_eq (take n t) q) (Some index)) so_far ∙ by (bytes_eq (take n t) q) (is_proper_prefix q (take n t))
    ∙ ap (λ b. cond b (Some index) old) (sym (prefix_more t q n within))
  where
    by : (a b : Bool) → cond a (Some index) (cond b (Some index) old) ≡ cond (a || b) (Some index) old
    by true b = refl
    by false b = refl
