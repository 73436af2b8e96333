-- The first condition that is not met, over lists of conditions.
use Rattle.std.proofs.Common.{◌≡◌, ℕ, List, [], ◌∷◌, ◌++◌, Bool, true, false, cond, not, ◌&&◌, map, drop, ◌+◌, refl, sym, ◌∙◌, ap}
use Rattle.std.specs.Prelude.{flat_map, slice_get, Option, Some, None}
use Rattle.std.specs.List.{find, list_all}
use Rattle.std.specs.Option.{option_map, option_or}
use Rattle.std.proofs.lemmas.Bool.{and_parts, and_from}
use Rattle.std.proofs.lemmas.List.{drop_more}
use Rattle.std.proofs.lemmas.List.Folds.{find-append, list_all-append}
use Rattle.std.proofs.lemmas.Option.{slice_get_within, get_or_from_slice_get}
use Rattle.compose_fresh.specs.declared.fault.CheckFault.{CheckFault}
use Rattle.compose_fresh.specs.Conditions.{Condition, condition, first_unmet}

-- the first of all is the first of these, or that of the others
pub first_unmet-append : (xs ys : List Condition) → first_unmet (xs ++ ys) ≡ option_or (first_unmet xs) (first_unmet ys)
first_unmet-append xs ys =
    ap (option_map (λ (d : Condition). d.fault)) (find-append (λ (d : Condition). not d.met) xs ys) ∙ go (find (λ (d : Condition). not d.met) xs)
  where
    go : (o : Option Condition)
        → option_map (λ (d : Condition). d.fault) (option_or o (find (λ (d : Condition). not d.met) ys)) ≡ option_or (option_map (λ (d : Condition). d.fault) o) (first_unmet ys)
    go None = refl
    go (Some d) = refl

-- a first condition that is met is passed over
pub first_unmet-met : (met : Bool) (fault : CheckFault) (ds : List Condition) → met ≡ true → first_unmet (condition met fault ∷ ds) ≡ first_unmet ds
first_unmet-met true fault ds h = refl
first_unmet-met false fault ds h = cc

-- the fault of a first condition that is not met is the first fault
pub first_unmet-fault : (met : Bool) (fault : CheckFault) (ds : List Condition) → met ≡ false → first_unmet (condition met fault ∷ ds) ≡ Some fault
first_unmet-fault true fault ds h = cc
first_unmet-fault false fault ds h = refl

-- an option that has no value is none
pub none_left : {X : Type 0} (o : Option X) → ((x : X) → o ≡ Some x → ⊥) → o ≡ None
none_left None h = refl
none_left (Some x) h = absurd (h x refl)

-- ---- if all are met

-- each of the conditions is met
abbrev pub all_met : List Condition → Bool
all_met ds = list_all (λ (d : Condition). d.met) ds

-- no fault is found exactly if all are met
pub met_from_none : (ds : List Condition) → first_unmet ds ≡ None → all_met ds ≡ true
met_from_none [] h = refl
met_from_none (d ∷ ds) h = go d.met refl h (met_from_none ds)
  where
    go : (b : Bool) → d.met ≡ b → option_map (λ (d : Condition). d.fault) (cond (not b) (Some d) (find (λ (d : Condition). not d.met) ds)) ≡ None → (first_unmet ds ≡ None → all_met ds ≡ true)
        → d.met && all_met ds ≡ true
    go true e h later = and_from d.met (all_met ds) e (later h)
    go false e h later = cc

-- if all conditions are met, there is no fault
pub none_from_met : (ds : List Condition) → all_met ds ≡ true → first_unmet ds ≡ None
none_from_met [] h = refl
none_from_met (d ∷ ds) h = go d.met refl (and_parts d.met (all_met ds) h) (none_from_met ds)
  where
    go : (b : Bool) → d.met ≡ b → (d.met ≡ true) × (all_met ds ≡ true) → (all_met ds ≡ true → first_unmet ds ≡ None)
        → option_map (λ (d : Condition). d.fault) (cond (not b) (Some d) (find (λ (d : Condition). not d.met) ds)) ≡ None
    go true e h later = later h.1
    go false e h later = absurd (let clash : false ≡ true = sym e ∙ h.0 in cc)

-- all conditions of all elements are met exactly if each element's own are
pub all_met-flat_map : {X : Type 0} (f : X → List Condition) (xs : List X) → all_met (flat_map f xs) ≡ list_all (λ x. all_met (f x)) xs
all_met-flat_map f [] = refl
all_met-flat_map f (x ∷ xs) = list_all-append (λ (d : Condition). d.met) (f x) (flat_map f xs) ∙ ap (λ b. all_met (f x) && b) (all_met-flat_map f xs)

-- two tests side by side
pub each_of : {X : Type 0} (p q : X → Bool) (xs : List X) → list_all (λ x. p x && (q x && true)) xs ≡ true → (list_all p xs ≡ true) × (list_all q xs ≡ true)
each_of p q [] h = (refl, refl)
each_of p q (x ∷ xs) h =
    let here = and_parts (p x && (q x && true)) (list_all (λ x. p x && (q x && true)) xs) h in
    let both = and_parts (p x) (q x && true) here.0 in
    let later = each_of p q xs here.1 in
    (and_from (p x) (list_all p xs) both.0 later.0, and_from (q x) (list_all q xs) (and_parts (q x) true both.1).0 later.1)

-- if each element passes both tests, both conditions of each element are met
pub both_of : {X : Type 0} (p q : X → Bool) (xs : List X) → list_all p xs ≡ true → list_all q xs ≡ true → list_all (λ x. p x && (q x && true)) xs ≡ true
both_of p q [] g h = refl
both_of p q (x ∷ xs) g h =
    let a = and_parts (p x) (list_all p xs) g in
    let b = and_parts (q x) (list_all q xs) h in
    and_from (p x && (q x && true)) (list_all (λ x. p x && (q x && true)) xs) (and_from (p x) (q x && true) a.0 (and_from (q x) true b.0 refl)) (both_of p q xs a.1 b.1)

-- ---- of the elements of a list from an index on

-- the element at the index, and then what is left after it
pub drop_at : {X : Type 0} (xs : List X) (i : ℕ) (x : X) → slice_get xs i ≡ Some x → drop i xs ≡ x ∷ drop (i + 1) xs
drop_at xs i x e = drop_more xs i x (slice_get_within xs i x e) ∙ ap (λ y. y ∷ drop (i + 1) xs) (get_or_from_slice_get xs i x x e)

-- the first fault of these, followed by others
pub unmet_before : (xs ys : List Condition) (fault : CheckFault) → first_unmet xs ≡ Some fault → first_unmet (xs ++ ys) ≡ Some fault
unmet_before xs ys fault h = first_unmet-append xs ys ∙ ap (λ o. option_or o (first_unmet ys)) h

-- if these are all met, the first fault is that of those that follow
pub met_before : (xs ys : List Condition) → first_unmet xs ≡ None → first_unmet (xs ++ ys) ≡ first_unmet ys
met_before xs ys h = first_unmet-append xs ys ∙ ap (λ o. option_or o (first_unmet ys)) h

-- if each element has several
pub unmet_at : {X : Type 0} (f : X → List Condition) (xs : List X) (i : ℕ) (x : X) (fault : CheckFault) → slice_get xs i ≡ Some x → first_unmet (f x) ≡ Some fault
    → first_unmet (flat_map f (drop i xs)) ≡ Some fault
unmet_at f xs i x fault e h = ap (λ ys. first_unmet (flat_map f ys)) (drop_at xs i x e) ∙ unmet_before (f x) (flat_map f (drop (i + 1) xs)) fault h

-- after an element whose conditions are all met, the first fault is that of the elements after it
pub met_at : {X : Type 0} (f : X → List Condition) (xs : List X) (i : ℕ) (x : X) → slice_get xs i ≡ Some x → first_unmet (f x) ≡ None
    → first_unmet (flat_map f (drop (i + 1) xs)) ≡ first_unmet (flat_map f (drop i xs))
met_at f xs i x e h = sym (ap (λ ys. first_unmet (flat_map f ys)) (drop_at xs i x e) ∙ met_before (f x) (flat_map f (drop (i + 1) xs)) h)

-- if each element has one
pub one_unmet_at : {X : Type 0} (f : X → Condition) (xs : List X) (i : ℕ) (x : X) → slice_get xs i ≡ Some x → (f x).met ≡ false → first_unmet (map f (drop i xs)) ≡ Some (f x).fault
one_unmet_at f xs i x e h = ap (λ ys. first_unmet (map f ys)) (drop_at xs i x e) ∙ first_unmet-fault (f x).met (f x).fault (map f (drop (i + 1) xs)) h

-- after an element whose condition is met, the first fault is that of the elements after it
pub one_met_at : {X : Type 0} (f : X → Condition) (xs : List X) (i : ℕ) (x : X) → slice_get xs i ≡ Some x → (f x).met ≡ true → first_unmet (map f (drop (i + 1) xs)) ≡ first_unmet (map f (drop i xs))
one_met_at f xs i x e h = sym (ap (λ ys. first_unmet (map f ys)) (drop_at xs i x e) ∙ first_unmet-met (f x).met (f x).fault (map f (drop (i + 1) xs)) h)
