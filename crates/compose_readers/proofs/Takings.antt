-- Of the definitions that are taken none is of the same sequence as another one, or of one with
-- which another's begins.
use Rattle.std.proofs.Common.{◌≡◌, ◌∙◌, ℕ, zero, suc, ◌+◌, ◌<◌, ◌≤◌, List, [], ◌∷◌, Bool, true, false, cond, ◌&&◌, refl, sym, ap, arith}
use Rattle.std.specs.Prelude.{Option, Some, None, unwrap_or, slice_get, nat_lt, bytes_eq, ◌==◌}
use Rattle.std.specs.Option.{option_or}
use Rattle.std.proofs.lemmas.Bool.{ltb-false}
use Rattle.std.proofs.lemmas.Slice.Eq.{bytes_eq-Decides}
use Rattle.compose_model.specs.Table.{is_proper_prefix}
use Rattle.compose_readers.specs.Definitions.{Definition}
use Rattle.compose_readers.specs.Fates.{Entry, extends, is_for, is_string_for, first_from, last_from, counting, fate_by, fate_of}
use Rattle.compose_readers.specs.declared.settling.Fate.{Fate}
use Rattle.compose_readers.specs.declared.settling.Fate.TheVariants.{Taken, Overridden, Behind, Full}
use Rattle.compose_readers.specs.Taken.{IsTaken}

-- ---- the first and the last

record Held (p : Entry → Bool) (n m : ℕ) (es : List Entry) : Type 0 where
  at : ℕ
  entry : Entry
  is : m ≡ n + at
  there : slice_get es at ≡ Some entry
  holds : p entry ≡ true

inside : (x y : Entry) → ◌≡◌ {A = Option Entry} (Some x) (Some y) → x ≡ y
inside x y e = ap (λ o. unwrap_or o x) e

-- the first one that is so is so
first_held : (p : Entry → Bool) (n m : ℕ) (es : List Entry) → first_from p n es ≡ Some m → Held p n m es
first_held p n m [] e = cc
first_held p n m (x ∷ es) e = by (p x) refl e (λ h. first_held p (n + 1) m es h)
  where
    by : (b : Bool) → p x ≡ b → cond b (Some n) (first_from p (n + 1) es) ≡ Some m → (first_from p (n + 1) es ≡ Some m → Held p (n + 1) m es) → Held p n m (x ∷ es)
    by true h f rest = let same : n ≡ m = ap (λ (o : Option ℕ). unwrap_or o 0) f in record { at = 0; entry = x; is = omega (arith, same); there = refl; holds = h }
    by false h f rest = let r = rest f in let is = r.is in record { at = suc r.at; entry = r.entry; is = omega (arith, is); there = r.there; holds = r.holds }

-- there is a first one if one is so
first_there : (p : Entry → Bool) (n : ℕ) (es : List Entry) (j : ℕ) (x : Entry) → slice_get es j ≡ Some x → p x ≡ true → (m : ℕ) × (first_from p n es ≡ Some m)
first_there p n [] j x is h = cc
first_there p n (e ∷ es) zero x is h = (n, ap (λ b. cond b (Some n) (first_from p (n + 1) es)) (ap p (inside e x is) ∙ h))
first_there p n (e ∷ es) (suc j) x is h = by (p e) (first_there p (n + 1) es j x is h)
  where
    by : (b : Bool) → (m : ℕ) × (first_from p (n + 1) es ≡ Some m) → (m : ℕ) × (cond b (Some n) (first_from p (n + 1) es) ≡ Some m)
    by true rest = (n, refl)
    by false rest = rest

last_there : (p : Entry → Bool) (n : ℕ) (es : List Entry) (j : ℕ) (x : Entry) → slice_get es j ≡ Some x → p x ≡ true → (m : ℕ) × (last_from p n es ≡ Some m)
last_there p n [] j x is h = cc
last_there p n (e ∷ es) zero x is h = by (last_from p (n + 1) es)
  where
    by : (o : Option ℕ) → (m : ℕ) × (option_or o (cond (p e) (Some n) None) ≡ Some m)
    by None = (n, ap (λ b. cond b (Some n) None) (ap p (inside e x is) ∙ h))
    by (Some m) = (m, refl)
last_there p n (e ∷ es) (suc j) x is h = let rest = last_there p (n + 1) es j x is h in (rest.0, ap (λ o. option_or o (cond (p e) (Some n) None)) rest.1)

-- ---- what is taken counts

same_index : (at c : ℕ) → fate_by at c ≡ Taken → at ≡ c
same_index at c e = by (nat_lt at c) (nat_lt c at) refl refl e
  where
    by : (a b : Bool) → nat_lt at c ≡ a → nat_lt c at ≡ b → cond a (Overridden c) (cond b (Behind c) Taken) ≡ Taken → at ≡ c
    by true b x y f = cc
    by false true x y f = cc
    by false false x y f = let l = ltb-false at c x in let r = ltb-false c at y in omega (arith, l, r)

-- the sequence has an entry that counts, and that is this one
counts : (es : List Entry) (at : ℕ) (d : Definition) → IsTaken es at d → counting es d.keys ≡ Some at
counts es at d t = by (first_from (extends d.keys) 0 es) (last_from (is_string_for d.keys) 0 es) (last_there (is_for d.keys) 0 es at (Some d) t.0 ((bytes_eq-Decides d.keys d.keys).1 refl)) t.1
  where
    by : (a b : Option ℕ) → (m : ℕ) × (last_from (is_for d.keys) 0 es ≡ Some m) → fate_by at (unwrap_or (option_or a (option_or b (last_from (is_for d.keys) 0 es))) at) ≡ Taken
        → option_or a (option_or b (last_from (is_for d.keys) 0 es)) ≡ Some at
    by (Some m) b l f = ap (λ (k : ℕ). let o : Option ℕ = Some k in o) (sym (same_index at m f))
    by None (Some m) l f = ap (λ (k : ℕ). let o : Option ℕ = Some k in o) (sym (same_index at m f))
    by None None l f = l.1 ∙ ap (λ (k : ℕ). let o : Option ℕ = Some k in o) (sym (same_index at l.0 (ap (λ o. fate_by at (unwrap_or o at)) (sym l.1) ∙ f)))

-- ---- two that are taken

-- one sequence
pub one_taken : (es : List Entry) (i j : ℕ) (d e : Definition) → IsTaken es i d → IsTaken es j e → d.keys ≡ e.keys → i ≡ j
one_taken es i j d e t u same = ap (λ (o : Option ℕ). unwrap_or o 0) (sym (counts es i d t) ∙ ap (counting es) same ∙ counts es j e u)

none : (b : Bool) → (b && false) ≡ false
none true = refl
none false = refl

not_itself : (q : List ℕ) → is_proper_prefix q q ≡ false
not_itself [] = refl
not_itself (k ∷ q) = ap (λ b. k == k && b) (not_itself q) ∙ none (k == k)

-- none begins with another one
pub free_taken : (es : List Entry) (i j : ℕ) (d e : Definition) → IsTaken es i d → IsTaken es j e → is_proper_prefix d.keys e.keys ≡ false
free_taken es i j d e t u = by (is_proper_prefix d.keys e.keys) refl
  where
    by : (b : Bool) → is_proper_prefix d.keys e.keys ≡ b → b ≡ false
    by false h = refl
    by true h =
        let f = first_there (extends d.keys) 0 es j (Some e) u.0 h in
        let held = first_held (extends d.keys) 0 f.0 es f.1 in
        let here : f.0 ≡ i = ap (λ (o : Option ℕ). unwrap_or o 0) (sym (ap (λ o. option_or o (option_or (last_from (is_string_for d.keys) 0 es) (last_from (is_for d.keys) 0 es))) f.1) ∙ counts es i d t) in
        let is = held.is in let place : held.at ≡ i = omega (arith, is, here) in
        let itself : held.entry ≡ Some d = inside held.entry (Some d) (sym held.there ∙ ap (slice_get es) place ∙ t.0) in
        let wrong : true ≡ false = sym (ap (extends d.keys) (sym itself) ∙ held.holds) ∙ not_itself d.keys in
        cc
