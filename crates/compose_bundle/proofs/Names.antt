-- Names that are taken, and names that differ.
use Rattle.std.proofs.Common.{◌≡◌, ◌+◌, List, [], ◌∷◌, ◌++◌, Bool, true, false, cond, not, length, suc, ℕ, refl, sym, ◌∙◌, ap, inl, inr, arith, nat_lt}
use Rattle.std.specs.List.{AllByRecursion, IsDistinct}
use Rattle.std.specs.Str.{bytes_eq}
use Rattle.std.proofs.lemmas.Bool.{cases_Bool, le-ltb, ltb-false}
use Rattle.std.proofs.lemmas.Slice.Eq.{bytes_eq-Decides}
use Rattle.compose_read.specs.Lines.{Source, source_named}
use Rattle.compose_bundle.specs.Bundle.{names_of}

-- none of the sources has the name
abbrev pub IsNew : List Source → List ℕ → Type 0
IsNew sources name = AllByRecursion (λ (s : Source). bytes_eq name s.name ≡ false) sources

flipped : (a b : List ℕ) → bytes_eq a b ≡ false → bytes_eq b a ≡ false
flipped a b h = elim (cases_Bool (bytes_eq b a)) [
  | inl e ↦ absurd (let t : true ≡ false = sym ((bytes_eq-Decides a b).1 (sym ((bytes_eq-Decides b a).0 e))) ∙ h in cc)
  | inr e ↦ e
]

-- a name under which no source is found is new
pub new_from : (name : List ℕ) (sources : List Source) → nat_lt (source_named sources name) (length sources) ≡ false → IsNew sources name
new_from name [] h = tt
new_from name (s ∷ ss) h = go (bytes_eq name s.name) refl h (new_from name ss)
  where
    go : (b : Bool) → bytes_eq name s.name ≡ b → nat_lt (cond (not b) (1 + source_named ss name) 0) (suc (length ss)) ≡ false
        → (nat_lt (source_named ss name) (length ss) ≡ false → IsNew ss name) → IsNew (s ∷ ss) name
    go true e h later = absurd (let l = ltb-false 0 (suc (length ss)) h in omega arith)
    go false e h later = (e, later (le-ltb (source_named ss name) (length ss) (let l = ltb-false (1 + source_named ss name) (suc (length ss)) h in omega arith)))

-- under a new name no source is found
pub not_taken : (name : List ℕ) (sources : List Source) → IsNew sources name → nat_lt (source_named sources name) (length sources) ≡ false
not_taken name [] a = refl
not_taken name (s ∷ ss) a =
    ap (λ b. nat_lt (cond (not b) (1 + source_named ss name) 0) (suc (length ss))) a.0
    ∙ le-ltb (1 + source_named ss name) (suc (length ss)) (let l = ltb-false (source_named ss name) (length ss) (not_taken name ss a.1) in omega arith)

one_more : (P : List ℕ → Type 0) (sources : List Source) (s : Source) → AllByRecursion P (names_of sources) → P s.name → AllByRecursion P (names_of (sources ++ s ∷ []))
one_more P [] s a p = (p, tt)
one_more P (x ∷ ss) s a p = (a.0, one_more P ss s a.1 p)

-- a new name keeps names distinct
pub still_distinct : (sources : List Source) (s : Source) → IsDistinct bytes_eq (names_of sources) → IsNew sources s.name → IsDistinct bytes_eq (names_of (sources ++ s ∷ []))
unfolding IsDistinct
still_distinct [] s d n = (tt, tt)
still_distinct (x ∷ ss) s d n = (one_more (λ y. bytes_eq x.name y ≡ false) ss s d.0 (flipped s.name x.name n.0), still_distinct ss s d.1 n.1)

at_middle : (P : List ℕ → Type 0) (before : List Source) (s : Source) (after : List Source) → AllByRecursion P (names_of (before ++ s ∷ after)) → P s.name
at_middle P [] s after a = a.0
at_middle P (x ∷ before) s after a = at_middle P before s after a.1

-- each of distinct names is new after those before it
pub new_among : (before : List Source) (s : Source) (after : List Source) → IsDistinct bytes_eq (names_of (before ++ s ∷ after)) → IsNew before s.name
unfolding IsDistinct
new_among [] s after d = tt
new_among (x ∷ before) s after d = (flipped x.name s.name (at_middle (λ y. bytes_eq x.name y ≡ false) before s after d.0), new_among before s after d.1)

-- no names are distinct names
pub none_distinct : IsDistinct bytes_eq (names_of [])
unfolding IsDistinct
none_distinct = tt
