-- What happens to a row whose sequence is a prefix of the next one's.
use Rattle.std.proofs.Common.{◌≡◌, ℕ, ◌<◌, List, [], ◌∷◌, Bool, true, false, cond, ◌&&◌, ◌||◌, length, nat_eq, get_or, take, get_or-take, eq-eqb, refl, sym, ◌∙◌, ap, inl, inr, arith}
use Rattle.std.specs.Prelude.{Ok, ◌==◌}
use Rattle.std.specs.List.{starts_with}
use Rattle.std.proofs.lemmas.Bool.{and_parts, or_cases, cases_Bool}
use Rattle.std.proofs.lemmas.List.{get_or_default}
use Rattle.compose_model.specs.Table.{Definition, same, is_proper_prefix}
use Rattle.compose_model.specs.declared.Rule.{Rule}
use Rattle.compose_model.proofs.NodeLemmas.{same_is}
use Rattle.compose_read.specs.Neighbours.{prefix_of_next, stays_before}

prefix_shorter : (p s : List ℕ) → is_proper_prefix p s ≡ true → length p < length s
prefix_shorter p [] h = cc
prefix_shorter [] (y ∷ s) h = omega arith
prefix_shorter (x ∷ p) (y ∷ s) h = let l = prefix_shorter p s (and_parts (x == y) (is_proper_prefix p s) h).1 in omega arith

prefix_is : (s p : List ℕ) → starts_with nat_eq s p ≡ same p s || is_proper_prefix p s
prefix_is [] [] = refl
prefix_is (y ∷ s) [] = refl
prefix_is [] (x ∷ p) = refl
prefix_is (y ∷ s) (x ∷ p) = go (x == y) (prefix_is s p)
  where
    go : (b : Bool) → starts_with nat_eq s p ≡ same p s || is_proper_prefix p s → b && starts_with nat_eq s p ≡ (b && same p s) || (b && is_proper_prefix p s)
    go true h = h
    go false h = refl

-- if two sequences differ at an index, neither is a prefix of the other
pub differs_at : (s p : List ℕ) (k x y : ℕ) → k < length p → x ≡ get_or p k x → y ≡ get_or s k y → nat_eq x y ≡ false → starts_with nat_eq s p ≡ false
differs_at s p k x y l at_p at_s differ = elim (cases_Bool (starts_with nat_eq s p)) [
  | inl h ↦ absurd (
      let equal : x ≡ y =
      at_p ∙ get_or_default p k x y l ∙ ap (λ t. get_or t k y) (same_is p (take (length p) s) h) ∙ get_or-take (length p) s k y l ∙ sym at_s in
      let clash : true ≡ false = sym (eq-eqb x y equal) ∙ differ in cc)
  | inr h ↦ h
]

module _ (rule : Rule) (d e : Definition) where
  decide : (a b : Bool) → same d.sequence e.sequence ≡ a → is_proper_prefix d.sequence e.sequence ≡ b → stays_before rule d e ≡ cond a (Ok false) (cond b (prefix_of_next rule d e) (Ok true))
  decide a b h k = λ i. cond (h i) (Ok false) (cond (k i) (prefix_of_next rule d e) (Ok true))

  neither : (a b : Bool) → a || b ≡ false → (a ≡ false) × (b ≡ false)
  neither true b h = cc
  neither false b h = (refl, h)

  -- a row is kept before a next one that does not begin with its sequence
  pub stays_apart : starts_with nat_eq e.sequence d.sequence ≡ false → stays_before rule d e ≡ Ok true
  stays_apart h =
      let n = neither (same d.sequence e.sequence) (is_proper_prefix d.sequence e.sequence) (sym (prefix_is e.sequence d.sequence) ∙ h) in decide false false n.0 n.1

  -- a row is left out if the next one has the same sequence
  pub stays_repeated : starts_with nat_eq e.sequence d.sequence ≡ true → length e.sequence ≡ length d.sequence → stays_before rule d e ≡ Ok false
  stays_repeated h l = elim (or_cases (same d.sequence e.sequence) (is_proper_prefix d.sequence e.sequence) (sym (prefix_is e.sequence d.sequence) ∙ h)) [
    | inl s ↦ decide true (is_proper_prefix d.sequence e.sequence) s refl
    | inr p ↦ (let longer = prefix_shorter d.sequence e.sequence p in absurd (omega arith))
  ]

  -- if the sequence of a row is a proper prefix of the next one, the rule decides
  pub stays_prefix : starts_with nat_eq e.sequence d.sequence ≡ true → (length e.sequence ≡ length d.sequence → ⊥) → stays_before rule d e ≡ prefix_of_next rule d e
  stays_prefix h l = elim (cases_Bool (same d.sequence e.sequence)) [
    | inl s ↦ absurd (l (ap length (sym (same_is d.sequence e.sequence s))))
    | inr s ↦ elim (or_cases (same d.sequence e.sequence) (is_proper_prefix d.sequence e.sequence) (sym (prefix_is e.sequence d.sequence) ∙ h)) [
      | inl t ↦ absurd (let clash : true ≡ false = sym t ∙ s in cc)
      | inr p ↦ decide false true s p
    ]
  ]
