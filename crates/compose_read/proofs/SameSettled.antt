-- Tables with the same text for each sequence settle to the same rows, and a stable sort does not
-- change these texts.
use Rattle.std.proofs.Common.{◌≡◌, ℕ, List, [], ◌∷◌, Bool, true, false, cond, not, ◌&&◌, filter, map, refl, sym, ◌∙◌, ap, ap₂, ◌⊎◌, inl, inr}
use Rattle.std.specs.Prelude.{Option, Some, None, Ok, unwrap_or}
use Rattle.std.specs.Option.{option_or}
use Rattle.std.specs.List.{find}
use Rattle.std.specs.List.Sorted.{IsStableBy, ties}
use Rattle.std.proofs.lemmas.Cmp.{nat_list_cmp_total}
use Rattle.std.proofs.lemmas.Bool.{cases_Bool}
use Rattle.compose_model.specs.Table.{Definition, same, is_proper_prefix, is_extended, text_at, longest, comes_before, IsSameTable}
use Rattle.compose_model.specs.Nodes.{leaves}
use Rattle.compose_model.proofs.NodeLemmas.{same_is}
use Rattle.compose_model.proofs.Sorted.{rising_sorted}
use Rattle.compose_model.proofs.SameTable.{same_sequence, same_extended, one_rising}
use Rattle.compose_model.proofs.Longest.{longest_text}
use Rattle.compose_read.specs.Settle.{in_order, Overlap, with_extension, overlap, or_overlap, settled}
use Rattle.compose_read.proofs.Order.{not_itself}
use Rattle.compose_read.proofs.Settled.{is_leaf}
use Rattle.compose_model.specs.declared.Rule.{Rule}
use Rattle.compose_model.specs.declared.Rule.TheVariants.{Refuse, Longest}

-- ---- texts in a part of a table

or_none : {X : Type 0} (o : Option X) → o ≡ option_or o None
or_none None = refl
or_none (Some x) = refl

-- if the part has no definition of v
text_left_out : (p : Definition → Bool) (v : List ℕ) (table : List Definition) → ((d : Definition) → same v d.sequence ≡ true → p d ≡ false) → text_at (filter p table) v ≡ None
text_left_out p v [] f = refl
text_left_out p v (d ∷ table) f = go (p d) (same v d.sequence) (f d) (text_left_out p v table f) refl
  where
    go : (b c : Bool) → (c ≡ true → b ≡ false) → text_at (filter p table) v ≡ None → same v d.sequence ≡ c → text_at (cond b (d ∷ filter p table) (filter p table)) v ≡ None
    go false c g e s = e
    go true true g e s = absurd (let n : true ≡ false = g refl in cc)
    go true false g e s = ap (λ o. option_or o (cond (same v d.sequence) (Some d.text) None)) e ∙ ap (λ y. let o : Option (List ℕ) = cond y (Some d.text) None in o) s

-- ---- a stable sort

module _ {X : Type 0} (f : X → Definition) where
  -- if the part has each definition of v
  text_of_part : (p : X → Bool) (v : List ℕ) (xs : List X) → ((x : X) → same v (f x).sequence ≡ true → p x ≡ true) → text_at (map f (filter p xs)) v ≡ text_at (map f xs) v
  text_of_part p v [] h = refl
  text_of_part p v (x ∷ xs) h = go (p x) (same v (f x).sequence) (h x) (text_of_part p v xs h) refl
    where
      go : (b c : Bool) → (c ≡ true → b ≡ true) → text_at (map f (filter p xs)) v ≡ text_at (map f xs) v → same v (f x).sequence ≡ c
          → text_at (map f (cond b (x ∷ filter p xs) (filter p xs))) v ≡ option_or (text_at (map f xs) v) (cond c (Some (f x).text) None)
      go true c g e s = ap (λ o. option_or o (cond (same v (f x).sequence) (Some (f x).text) None)) e ∙ ap (λ y. option_or (text_at (map f xs) v) (cond y (Some (f x).text) None)) s
      go false true g e s = absurd (let n : false ≡ true = g refl in cc)
      go false false g e s = e ∙ or_none (text_at (map f xs) v)

  -- an element with the sequence v, if there is one
  with_sequence : (xs : List X) (v : List ℕ) → ((x : X) × (v ≡ (f x).sequence)) ⊎ (text_at (map f xs) v ≡ None)
  with_sequence [] v = inr refl
  with_sequence (x ∷ xs) v = go (same v (f x).sequence) refl (with_sequence xs v)
    where
      go : (b : Bool) → same v (f x).sequence ≡ b → ((x : X) × (v ≡ (f x).sequence)) ⊎ (text_at (map f xs) v ≡ None)
          → ((x : X) × (v ≡ (f x).sequence)) ⊎ (text_at (map f (x ∷ xs)) v ≡ None)
      go true e r = inl (x, same_is v (f x).sequence e)
      go false e (inl r) = inl r
      go false e (inr n) = inr (ap₂ (λ o b. option_or o (cond b (Some (f x).text) None)) n e)

  -- elements of one sequence tie
  abbrev pub SameTie : (X → X → Bool) → Type 0
  SameTie lt = (x y : X) → (f x).sequence ≡ (f y).sequence → ties lt x y ≡ true

  -- in a stable order each sequence has the same text, if equal sequences tie
  pub stable_same : (lt : X → X → Bool) (xs ys : List X) → SameTie lt → IsStableBy lt xs ys → IsSameTable (map f ys) (map f xs)
  stable_same lt xs ys tie stable v = elim (with_sequence ys v) [
    | inl t ↦ by t.0 t.1
    | inr absent ↦ elim (with_sequence xs v) [
      | inl t ↦ by t.0 t.1
      | inr before ↦ absent ∙ sym before
    ]
  ]
    where
      by : (x : X) → v ≡ (f x).sequence → text_at (map f ys) v ≡ text_at (map f xs) v
      by x is =
          let tied = λ (y : X) (e : same v (f y).sequence ≡ true). tie x y (sym is ∙ same_is v (f y).sequence e) in
          sym (text_of_part (ties lt x) v ys tied) ∙ ap (λ zs. text_at (map f zs) v) (stable x) ∙ text_of_part (ties lt x) v xs tied

  -- rows with equal sequences tie in the order of sequences
  pub sequences_tie : SameTie (λ x y. comes_before (f x).sequence (f y).sequence)
  sequences_tie x y e =
      ap (λ s. not (comes_before s (f y).sequence) && not (comes_before (f y).sequence s)) e ∙ ap (λ b. not b && not b) (not_itself (f y).sequence)

-- ---- the same rows

abbrev map_sequences : List Definition → List (List ℕ)
map_sequences table = map (λ (d : Definition). d.sequence) table

-- the rows of these sequences, with these texts
abbrev rows : (List ℕ → Option (List ℕ)) → List (List ℕ) → List Definition
rows texts ss = map (λ s. let d : Definition = record { sequence = s; text = unwrap_or (texts s) [] } in d) ss

-- a sequence that is extended has no text once only the longest are kept
overridden : (table : List Definition) (v : List ℕ) → is_extended table v ≡ true → text_at (longest table) v ≡ None
overridden table v e = text_left_out (λ d. not (is_extended table d.sequence)) v table (λ d h. ap not (ap (is_extended table) (sym (same_is v d.sequence h)) ∙ e))

module _ (a b : List Definition) (texts : IsSameTable a b) where
  same_leaves : leaves a ≡ leaves b
  same_leaves = one_rising (leaves a) (leaves b)
      (rising_sorted nat_list_cmp_total (map_sequences a)) (rising_sorted nat_list_cmp_total (map_sequences b))
      (λ q. is_leaf a q ∙ same_sequence a b texts q ∙ sym (is_leaf b q))

  same_in_order : in_order a ≡ in_order b
  same_in_order = λ i. rows (λ s. texts s i) (same_leaves i)

  same_extension : (o : Option (List ℕ)) → with_extension a o ≡ with_extension b o
  same_extension None = refl
  same_extension (Some short) = ap (λ ls. let o : Overlap = record { short = short; long = unwrap_or (find (is_proper_prefix short) ls) [] } in Some o) same_leaves

  same_overlap : overlap a ≡ overlap b
  same_overlap = same_extension (find (is_extended a) (leaves a)) ∙ (λ i. with_extension b (find (λ s. same_extended a b texts s i) (same_leaves i)))

  same_longest : IsSameTable (longest a) (longest b)
  same_longest v = elim (cases_Bool (is_extended a v)) [
    | inl e ↦ overridden a v e ∙ sym (overridden b v (sym (same_extended a b texts v) ∙ e))
    | inr e ↦ longest_text a v e ∙ texts v ∙ sym (longest_text b v (sym (same_extended a b texts v) ∙ e))
  ]

-- tables with the same text for each sequence settle to the same rows
pub same_settled : (rule : Rule) (a b : List Definition) → IsSameTable a b → settled rule a ≡ settled rule b
same_settled Refuse a b texts = λ i. or_overlap (same_overlap a b texts i) (same_in_order a b texts i)
same_settled Longest a b texts = ap Ok (same_in_order (longest a) (longest b) (same_longest a b texts))
