-- Adding the next definition of a table to a draft.
use Rattle.std.proofs.Common.{◌≡◌, ℕ, ◌%◌, ◌<◌, ◌≤◌, List, [], ◌∷◌, ◌++◌, Bool, true, false, ◌⊎◌, length, refl, sym, ◌∙◌, ap, subst, arith, inl, inr}
use Rattle.std.specs.Prelude.{Result, Ok, Err, Some, slice_get, IfOk}
use Rattle.compose_model.specs.Table.{Definition, is_definition}
use Rattle.compose_read.specs.Read.{max_definitions}
use Rattle.compose_tree.specs.Packed.{texts_of}
use Rattle.compose_c.specs.Arrays.{AreOf, AreFirst, LeadsTo, sequences_from}
use Rattle.compose_c.specs.declared.loose.LooseArrays.{LooseArrays}
use Rattle.compose_c.proofs.FirstDefinitions.{one_left, next}
use Rattle.compose_c.proofs.EdgeTargets.{odd_leads}
use Rattle.compose_c.proofs.SequencesFrom.{from_leaf}

-- the next definition is added if its text is found
pub next_added : {E : Type 0} (a : LooseArrays) (old new : List Definition) (q t : List ℕ) (n : ℕ) (r : Result Bool E) → n ≡ length old
    → ((table : List Definition) → AreOf a table → n < length table → slice_get (texts_of table) n ≡ Some t)
    → IfOk r (λ added. added ≡ true → new ≡ old ++ record { sequence = q; text = t } ∷ [])
    → IfOk r (λ added. added ≡ false → (is_definition (record { sequence = q; text = t }) ≡ false) ⊎ (max_definitions ≤ length old))
    → IfOk r (λ added. (table : List Definition) (others : List (List ℕ)) → AreOf a table → AreFirst table old (q ∷ others) → (added ≡ true) × AreFirst table new others)
next_added a old new q t n (Err e) count text added refused = tt
next_added a old new q t n (Ok true) count text added refused = λ table others is first.
    (let left = one_left table old q others first in
    let found = text table is (omega arith) ∙ refl in
    let x = next table old q t others first (ap (slice_get (texts_of table)) (sym count) ∙ found) in
    (refl, subst (λ ds. AreFirst table ds others) (sym (added refl)) x.first))
next_added a old new q t n (Ok false) count text added refused = λ table others is first.
    (let left = one_left table old q others first in
    let x = next table old q t others first (ap (slice_get (texts_of table)) (sym count) ∙ text table is (omega arith)) in
    let sound = x.sound is.settled.definitions in
    let few = is.few_leaves in
    absurd (elim (refused refl) [
      | inl h ↦ (let e : true ≡ false = sym sound ∙ h in cc)
      | inr h ↦ omega arith
    ]))

-- the definition of a leaf's keysyms is the next one
pub leaf_added : {E : Type 0} (a : LooseArrays) (old new : List Definition) (q path : List ℕ) (target : ℕ) (r : Result Bool E) → q ≡ path → target % 2 ≡ 1
    → IfOk r (λ added. (table : List Definition) (others : List (List ℕ)) → AreOf a table → AreFirst table old (q ∷ others) → (added ≡ true) × AreFirst table new others)
    → IfOk r (λ added. (table : List Definition) (others : List (List ℕ)) → AreOf a table → LeadsTo table path target
    → AreFirst table old (sequences_from table path ++ others) → (added ≡ true) × AreFirst table new others)
leaf_added a old new q path target (Err e) same odd added = tt
leaf_added a old new q path target (Ok x) same odd added = λ table others is leads first.
    added table others is (subst (λ xs. AreFirst table old (xs ++ others)) (from_leaf table is.settled path (odd_leads table path target leads odd) ∙ ap (λ s. s ∷ []) (sym same)) first)
