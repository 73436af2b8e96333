-- The first source with a name, after another one.
use Rattle.std.proofs.Common.{◌≡◌, ◌∙◌, ℕ, ◌+◌, ◌<◌, Bool, true, false, List, [], length, get_or, refl, sym, ap, inl, inr, arith}
use Rattle.std.specs.Prelude.{◌&&◌, nat_lt, slice_get, bytes_eq}
use Rattle.std.specs.Option.{option_map_or}
use Rattle.std.proofs.Math.Nat.{eq-or-lt_of_le}
use Rattle.std.proofs.lemmas.Bool.{ltb-true, lt-ltb, false_from_ne_true}
use Rattle.std.proofs.lemmas.List.Sums.{position_or_len_is}
use Rattle.std.proofs.lemmas.Option.{slice_get-get_or}
use Rattle.compose_read.specs.Lines.{Source, source_named}
use Rattle.compose_lint.specs.Faults.{is_later}

abbrev nothing : Source
nothing = record { name = []; bytes = [] }

and_true : (b : Bool) → (b && true) ≡ b
and_true true = refl
and_true false = refl

and_false : (b : Bool) → (b && false) ≡ false
and_false true = refl
and_false false = refl

module _ (sources : List Source) (name : List ℕ) where
  abbrev is_named : ℕ → Bool
  is_named i = bytes_eq name (get_or sources i nothing).name

  pub named_at : (i : ℕ) → i < length sources → option_map_or (λ (s : Source). bytes_eq name s.name) (slice_get sources i) false ≡ is_named i
  named_at i within = ap (λ o. option_map_or (λ (s : Source). bytes_eq name s.name) o false) (slice_get-get_or sources i nothing within)

  -- one more source without the name
  pub not_yet : (i : ℕ) → is_named i ≡ false → ((k : ℕ) → k < i → is_named k ≡ false) → (k : ℕ) → k < i + 1 → is_named k ≡ false
  not_yet i here before k below = elim (eq-or-lt_of_le {n = k} {m = i} (omega (arith, below))) [ inl same ↦ ap is_named same ∙ here | inr less ↦ before k less ]

  -- the first source with the name
  pub later_at : (source i : ℕ) → i < length sources → is_named i ≡ true → ((k : ℕ) → k < i → is_named k ≡ false) → nat_lt source i ≡ is_later sources source name
  later_at source i within here before =
      let at : source_named sources name ≡ i = position_or_len_is (λ (s : Source). bytes_eq name s.name) sources i nothing (omega (arith, within)) before (λ _. here) in
      sym (ap (λ n. nat_lt source n && nat_lt n (length sources)) at ∙ ap (λ b. nat_lt source i && b) (lt-ltb i (length sources) within) ∙ and_true (nat_lt source i))

  -- no source has the name
  pub never : (source n : ℕ) → n ≡ length sources → ((k : ℕ) → k < n → is_named k ≡ false) → false ≡ is_later sources source name
  never source n all before =
      let at : source_named sources name ≡ n = position_or_len_is (λ (s : Source). bytes_eq name s.name) sources n nothing (omega (arith, all)) before (λ h. absurd (omega (arith, all, h))) in
      sym (ap (λ m. nat_lt source m && nat_lt m (length sources)) at
      ∙ ap (λ b. nat_lt source n && b) (false_from_ne_true (nat_lt n (length sources)) (λ e. let h = ltb-true n (length sources) e in omega (arith, all, h))) ∙ and_false (nat_lt source n))
