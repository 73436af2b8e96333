-- The step of the model, by where a key lands.
use Rattle.std.proofs.Common.{◌≡◌, ℕ, zero, suc, ◌<◌, List, [], ◌∷◌, Bool, true, false, cond, not, length, get_or, refl, sym, ◌∙◌, ap, subst, arith, Less, nat_cmp}
use Rattle.std.proofs.lemmas.Bool.{ne_eqb}
use Rattle.std.specs.Prelude.{◌==◌, Option, Some, None, unwrap_or}
use Rattle.std.specs.List.{AllByRecursion}
use Rattle.std.specs.List.Sorted.{IsStrictlySortedBy}
use Rattle.std.specs.Cmp.Lexicographic.{slice_cmp}
use Rattle.keysym_core.specs.Keysym.{is_ignored}
use Rattle.keysym_core.specs.Names.{KeysymNames, text}
use Rattle.compose_model.specs.Table.{Definition}
use Rattle.compose_model.specs.Step.{passes, cancels, effect, is_empty, is_cancel, pending_by, text_by}
use Rattle.compose_model.specs.Nodes.{nodes, node, number_of}
use Rattle.compose_model.proofs.NodeLemmas.{root_first, root_number}
use Rattle.compose_model.proofs.Sorted.{nodes_sorted}
use Rattle.compose_tree.specs.declared.table.Target.{Target}
use Rattle.compose_tree.specs.declared.table.Target.TheVariants.{Node, Leaf}
use Rattle.compose_tree.specs.Targets.{target_of}
use Rattle.compose_tree.proofs.Steps.{Leads, leads, effect_at, effect_by_target}
use Rattle.compose_check.specs.Landing.{IsLandingOf, landing_text, landing_cancels, landing_number}

-- ---- only the first node is the root

none_empty : (xs : List (List ℕ)) (m : ℕ) → AllByRecursion (λ y. slice_cmp nat_cmp [] y ≡ Less) xs → m < length xs → is_empty (get_or xs m []) ≡ false
none_empty [] m a h = absurd (omega arith)
none_empty ([] ∷ xs) zero a h = absurd (let clash = a.0 in cc)
none_empty ((k ∷ s) ∷ xs) zero a h = refl
none_empty (x ∷ xs) (suc m) a h = none_empty xs m a.1 (omega arith)

-- a node is the root exactly if its number is 0
pub root_alone : (table : List Definition) (n : ℕ) → n < length (nodes table) → is_empty (node table n) ≡ (n == 0)
unfolding IsStrictlySortedBy
root_alone table n h = go (nodes table) (root_first table).0 (root_first table).1 (nodes_sorted table) n h
  where
    go : (all rest : List (List ℕ)) → all ≡ [] ∷ rest → IsStrictlySortedBy (slice_cmp nat_cmp) all → (n : ℕ) → n < length all → is_empty (get_or all n []) ≡ (n == 0)
    go [] rest e s n h = absurd (omega arith)
    go (x ∷ xs) rest e s zero h = (let first : x ≡ [] = cc in ap is_empty first)
    go (x ∷ xs) rest e s (suc n) h =
        let first : x ≡ [] = cc in
        let sorted : AllByRecursion (λ y. slice_cmp nat_cmp [] y ≡ Less) xs = subst (λ (z : List ℕ). AllByRecursion (λ y. slice_cmp nat_cmp z y ≡ Less) xs) first s.0 in
        none_empty xs n sorted (omega arith) ∙ sym (ne_eqb (suc n) 0 (λ e. absurd (omega arith)))

-- ---- a step

module _ (names : KeysymNames) (table : List Definition) (p : List ℕ) (k : ℕ) (landing : Option Target) (to : target_of table p k ≡ landing) where
  led : Leads table p k landing
  led = subst (Leads table p k) to (leads table p k)

  -- a leaf is one of the table's
  pub landing_is_of : IsLandingOf table landing
  landing_is_of = go landing led
    where
      go : (t : Option Target) → Leads table p k t → IsLandingOf table t
      go None l = tt
      go (Some (Node n)) l = tt
      go (Some (Leaf n)) l = l.in_range

  module _ (fed : is_ignored k ≡ false) where
    effect_is_at : effect table p k ≡ effect_at (is_empty p) landing
    effect_is_at = effect_by_target table p k fed ∙ ap (effect_at (is_empty p)) to

    -- the key cancels
    pub lands_cancelled : (n : ℕ) → is_empty p ≡ (n == 0) → is_cancel (effect table p k) ≡ landing_cancels n landing
    lands_cancelled n root = ap is_cancel effect_is_at ∙ go landing
      where
        go : (t : Option Target) → is_cancel (effect_at (is_empty p) t) ≡ landing_cancels n t
        go (Some (Node m)) = refl
        go (Some (Leaf m)) = refl
        go None = ap (λ b. is_cancel (cond b passes cancels)) root ∙ by (n == 0)
          where
            by : (b : Bool) → is_cancel (cond b passes cancels) ≡ not b
            by true = refl
            by false = refl

    -- the text
    pub lands_text : is_cancel (effect table p k) ≡ false → text_by (effect table p k) names table p k ≡ landing_text names table k landing
    lands_text on = ap (λ x. text_by x names table p k) effect_is_at ∙ go landing led (ap is_cancel (sym effect_is_at) ∙ on)
      where
        go : (t : Option Target) → Leads table p k t → is_cancel (effect_at (is_empty p) t) ≡ false → text_by (effect_at (is_empty p) t) names table p k ≡ landing_text names table k t
        go (Some (Node m)) l c = refl
        go (Some (Leaf m)) l c = ap (λ o. unwrap_or o []) (sym l.text)
        go None l c = by (is_empty p) c
          where
            by : (b : Bool) → is_cancel (cond b passes cancels) ≡ false → text_by (cond b passes cancels) names table p k ≡ text names k
            by true c = refl
            by false c = cc

    -- the number of the node that is pending then
    pub lands_number : number_of table (pending_by (effect table p k) p k) ≡ landing_number landing
    lands_number = ap (λ x. number_of table (pending_by x p k)) effect_is_at ∙ go landing led
      where
        go : (t : Option Target) → Leads table p k t → number_of table (pending_by (effect_at (is_empty p) t) p k) ≡ landing_number t
        go (Some (Node m)) l = l.number
        go (Some (Leaf m)) l = root_number table
        go None l = by (is_empty p)
          where
            by : (b : Bool) → number_of table (pending_by (cond b passes cancels) p k) ≡ 0
            by true = root_number table
            by false = root_number table
