use Rattle.std.proofs.Common.{◌≡◌, true, false, ◌≤◌, ℕ, List, [], ◌∷◌, length, drop, refl, sym, ap, ◌∙◌, nat_cmp, nat_lt, inl, inr, arith, rules}
use Rattle.std.specs.Prelude.{◌⊎◌}
use Rattle.std.specs.Ordering.{is_lt}
use Rattle.std.specs.Cmp.Lexicographic.{slice_cmp}
use Rattle.std.proofs.lemmas.Grind.{common_steps}
use Rattle.std.proofs.lemmas.List.{length-drop}
use Rattle.compose_read.proofs.sorting.comes_before.Goals as goal
use Rattle.compose_read.proofs.sorting.comes_before.Goals.{then-loop-index-test+else-index-other, else-loop-index-test}

-- an empty list comes before any that isn't, and no list comes before an empty one
by_length : (s t : List ℕ) → (length s ≡ 0) ⊎ (length t ≡ 0) → is_lt (slice_cmp nat_cmp s t) ≡ nat_lt (length s) (length t)
by_length [] [] h = let e : nat_lt 0 0 ≡ false = refl in sym e
by_length [] (y ∷ t) h = let e : nat_lt 0 (length (y ∷ t)) ≡ true = grind (arith, common_steps) in sym e
by_length (x ∷ s) [] h = let e : nat_lt (length (x ∷ s)) 0 ≡ false = grind (arith, common_steps) in sym e
by_length (x ∷ s) (y ∷ t) (inl e) = absurd (omega (arith, e))
by_length (x ∷ s) (y ∷ t) (inr e) = absurd (omega (arith, e))

-- the same where the lists begin alike, and one of them ends there
by_rest : (s t : List ℕ) (i : ℕ) → i ≤ length s → i ≤ length t → (length s ≤ i) ⊎ (length t ≤ i)
    → slice_cmp nat_cmp (drop i s) (drop i t) ≡ slice_cmp nat_cmp s t → nat_lt (length s) (length t) ≡ is_lt (slice_cmp nat_cmp s t)
by_rest s t i in_s in_t ends alike =
    let left = length-drop i s in let right = length-drop i t in
    let empty : (length (drop i s) ≡ 0) ⊎ (length (drop i t) ≡ 0) = elim ends [ inl e ↦ inl (omega (arith, left, e)) | inr e ↦ inr (omega (arith, right, e)) ] in
    let same : nat_lt (length (drop i s)) (length (drop i t)) ≡ nat_lt (length s) (length t) = grind (arith, common_steps, left, right, in_s, in_t) in
    sym same ∙ sym (by_length (drop i s) (drop i t) empty) ∙ ap is_lt alike

pub returns : goal.returns
returns c = by_rest c.args.one.now c.args.other.now c.loop-index.index c.loop-index.invariant.1 c.loop-index.invariant.2
    (elim c.loop-index-test.branch [
      | then-loop-index-test+else-index-other w ↦ inr (search rules)
      | else-loop-index-test w ↦ inl (search rules)
    ]) c.loop-index.invariant.0
