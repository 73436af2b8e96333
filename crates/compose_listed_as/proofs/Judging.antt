-- Two lists side by side.
use Rattle.std.proofs.Common.{◌≡◌, ◌∙◌, add-one, ℕ, zero, suc, ◌+◌, ◌<◌, ◌≤◌, Bool, true, false, cond, List, [], ◌∷◌, length, drop, get_or, refl, sym, ap, arith}
use Rattle.std.specs.List.{filter}
use Rattle.std.specs.Prelude.{Option, Some, None, slice_get, unwrap_or}
use Rattle.compose_readers.specs.Walks.{Told}
use Rattle.compose_readers.specs.declared.settling.Fate.{Fate}
use Rattle.compose_listed_as.specs.Judged.{Judged, with_fates}

-- one pair more
judged_suc : (told : List Told) (fates : List Fate) (at : ℕ) (d : Told) (fate : Fate) → at < length told → slice_get fates at ≡ Some fate
    → with_fates (drop at told) (drop at fates) ≡ record { told = get_or told at d; fate = fate } ∷ with_fates (drop (suc at) told) (drop (suc at) fates)
judged_suc [] fates at d fate within is = absurd (omega (arith, within))
judged_suc (t ∷ ts) [] at d fate within is = let clash : None ≡ Some fate = is in cc
judged_suc (t ∷ ts) (f ∷ fs) zero d fate within is = ap (λ (o : Option Fate). let j : Judged = record { told = t; fate = unwrap_or o f } in j ∷ with_fates ts fs) is
judged_suc (t ∷ ts) (f ∷ fs) (suc at) d fate within is = judged_suc ts fs at d fate (omega (arith, within)) is

pub judged_more : (told : List Told) (fates : List Fate) (at : ℕ) (d : Told) (fate : Fate) → at < length told → slice_get fates at ≡ Some fate
    → with_fates (drop at told) (drop at fates) ≡ record { told = get_or told at d; fate = fate } ∷ with_fates (drop (at + 1) told) (drop (at + 1) fates)
judged_more told fates at d fate within is =
    let one : Judged = record { told = get_or told at d; fate = fate } in
    judged_suc told fates at d fate within is ∙ ap (λ n. one ∷ with_fates (drop n told) (drop n fates)) (sym (add-one at))

judged_none : (told : List Told) → with_fates told [] ≡ []
judged_none [] = refl
judged_none (t ∷ ts) = refl

-- no fate is left
pub no_fate : (told : List Told) (fates : List Fate) (at : ℕ) → length fates ≤ at → with_fates told (drop at fates) ≡ []
no_fate told [] zero long = judged_none told
no_fate told [] (suc at) long = judged_none told
no_fate told (f ∷ fs) zero long = absurd (omega (arith, long))
no_fate told (f ∷ fs) (suc at) long = no_fate told fs at (omega (arith, long))

-- ---- those that aren't taken

-- one more
other_suc : (p : Judged → Bool) (js : List Judged) (at : ℕ) (d : Judged) → at < length js → p (get_or js at d) ≡ true → filter p (drop at js) ≡ get_or js at d ∷ filter p (drop (suc at) js)
other_suc p [] at d within is = absurd (omega (arith, within))
other_suc p (j ∷ js) zero d within is = ap (λ b. cond b (j ∷ filter p js) (filter p js)) is
other_suc p (j ∷ js) (suc at) d within is = other_suc p js at d (omega (arith, within)) is

pub other_more : (p : Judged → Bool) (js : List Judged) (at : ℕ) (d : Judged) → at < length js → p (get_or js at d) ≡ true → filter p (drop at js) ≡ get_or js at d ∷ filter p (drop (at + 1) js)
other_more p js at d within is = other_suc p js at d within is ∙ ap (λ n. get_or js at d ∷ filter p (drop n js)) (sym (add-one at))

-- none more
none_suc : (p : Judged → Bool) (js : List Judged) (at : ℕ) (d : Judged) → at < length js → p (get_or js at d) ≡ false → filter p (drop at js) ≡ filter p (drop (suc at) js)
none_suc p [] at d within is = absurd (omega (arith, within))
none_suc p (j ∷ js) zero d within is = ap (λ b. cond b (j ∷ filter p js) (filter p js)) is
none_suc p (j ∷ js) (suc at) d within is = none_suc p js at d (omega (arith, within)) is

pub other_not : (p : Judged → Bool) (js : List Judged) (at : ℕ) (d : Judged) → at < length js → p (get_or js at d) ≡ false → filter p (drop at js) ≡ filter p (drop (at + 1) js)
other_not p js at d within is = none_suc p js at d within is ∙ ap (λ n. filter p (drop n js)) (sym (add-one at))
