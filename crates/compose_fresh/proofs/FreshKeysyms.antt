-- The conditions on fresh keysyms, key by key and together.
use Rattle.std.proofs.Common.{◌≡◌, ℕ, ◌+◌, ◌<◌, List, ◌∷◌, true, false, not, ◌&&◌, length, get_or, drop, sym, ◌∙◌, ap, arith}
use Rattle.std.specs.Prelude.{flat_map, Some, None}
use Rattle.std.specs.List.{position_or_len, list_all}
use Rattle.std.proofs.lemmas.Bool.{and_parts, and_from, not_from_false, not_from_true}
use Rattle.std.proofs.lemmas.List.{drop_more}
use Rattle.std.proofs.lemmas.List.Sums.{fails_before_first, passes_at_first}
use Rattle.keysym_core.specs.Keysym.{is_ignored}
use Rattle.compose_model.specs.Table.{Definition, has_key}
use Rattle.compose_model.specs.Nodes.{keysyms}
use Rattle.compose_model.specs.Certificate.{AreFresh, keys_rise}
use Rattle.compose_fresh.specs.declared.fault.CheckFault.TheVariants.{FreshUsed, FreshIgnored, FreshNotRising}
use Rattle.compose_fresh.specs.Conditions.{first_unmet, condition}
use Rattle.compose_fresh.specs.Fresh.{fresh_conditions, one_fresh_conditions}
use Rattle.compose_fresh.proofs.Unmet.{all_met, first_unmet-met, first_unmet-fault, met_from_none, none_from_met, all_met-flat_map, each_of, both_of}

-- ---- key by key; the first keysym that is used has the index `used`

module _ (old : List Definition) (fresh : List ℕ) (used i k : ℕ) (first : used ≡ position_or_len (has_key (keysyms old)) fresh) (in_range : i < length fresh) (at : k ≡ get_or fresh i k) where
  left : first_unmet (flat_map (one_fresh_conditions old) (drop i fresh)) ≡ first_unmet (flat_map (one_fresh_conditions old) (k ∷ drop (i + 1) fresh))
  left = ap (λ xs. first_unmet (flat_map (one_fresh_conditions old) xs)) (drop_more fresh i k in_range ∙ ap (λ x. x ∷ drop (i + 1) fresh) (sym at))

  -- before that index only the conditions on the later keysyms remain
  pub stale_later : is_ignored k ≡ false → i < used → first_unmet (flat_map (one_fresh_conditions old) (drop (i + 1) fresh)) ≡ first_unmet (flat_map (one_fresh_conditions old) (drop i fresh))
  stale_later fed before =
      let unused : has_key (keysyms old) k ≡ false = ap (has_key (keysyms old)) at ∙ fails_before_first (has_key (keysyms old)) fresh i k (omega arith) in
      sym (left
      ∙ first_unmet-met (not (is_ignored k)) (FreshIgnored k) (condition (not (has_key (keysyms old) k)) (FreshUsed k) ∷ flat_map (one_fresh_conditions old) (drop (i + 1) fresh))
      (not_from_false (is_ignored k) fed)
      ∙ first_unmet-met (not (has_key (keysyms old) k)) (FreshUsed k) (flat_map (one_fresh_conditions old) (drop (i + 1) fresh)) (not_from_false (has_key (keysyms old) k) unused))

  -- at that index the keysym is used
  pub stale_used : is_ignored k ≡ false → i ≡ used → Some (FreshUsed k) ≡ first_unmet (flat_map (one_fresh_conditions old) (drop i fresh))
  stale_used fed here =
      let index : i ≡ position_or_len (has_key (keysyms old)) fresh = here ∙ first in
      let is_used : has_key (keysyms old) k ≡ true = ap (has_key (keysyms old)) (at ∙ ap (λ n. get_or fresh n k) index) ∙ passes_at_first (has_key (keysyms old)) fresh k (omega arith) in
      sym (left
      ∙ first_unmet-met (not (is_ignored k)) (FreshIgnored k) (condition (not (has_key (keysyms old) k)) (FreshUsed k) ∷ flat_map (one_fresh_conditions old) (drop (i + 1) fresh))
      (not_from_false (is_ignored k) fed)
      ∙ first_unmet-fault (not (has_key (keysyms old) k)) (FreshUsed k) (flat_map (one_fresh_conditions old) (drop (i + 1) fresh)) (not_from_true (has_key (keysyms old) k) is_used))

-- ---- together

-- if the keysyms are increasing, only the conditions on each of them remain
pub each_of_rising : (old : List Definition) (fresh : List ℕ) → keys_rise fresh ≡ true → first_unmet (flat_map (one_fresh_conditions old) fresh) ≡ first_unmet (fresh_conditions old fresh)
each_of_rising old fresh h = sym (first_unmet-met (keys_rise fresh) FreshNotRising (flat_map (one_fresh_conditions old) fresh) h)

tests_are : (old : List Definition) (fresh : List ℕ) → all_met (fresh_conditions old fresh) ≡ keys_rise fresh && list_all (λ k. not (is_ignored k) && (not (has_key (keysyms old) k) && true)) fresh
tests_are old fresh = ap (λ b. keys_rise fresh && b) (all_met-flat_map (one_fresh_conditions old) fresh)

-- if no condition fails, the keysyms are fresh
pub are_fresh : (old : List Definition) (fresh : List ℕ) → first_unmet (fresh_conditions old fresh) ≡ None → AreFresh fresh old
are_fresh old fresh h =
    let parts =
    and_parts (keys_rise fresh) (list_all (λ k. not (is_ignored k) && (not (has_key (keysyms old) k) && true)) fresh)
    (sym (tests_are old fresh) ∙ met_from_none (fresh_conditions old fresh) h) in
    let each = each_of (λ k. not (is_ignored k)) (λ k. not (has_key (keysyms old) k)) fresh parts.1 in
    record { rise = parts.0; none_ignored = each.0; none_used = each.1 }

-- if the keysyms are fresh, no condition fails
pub fresh_is_met : (old : List Definition) (fresh : List ℕ) → AreFresh fresh old → first_unmet (fresh_conditions old fresh) ≡ None
fresh_is_met old fresh a = none_from_met (fresh_conditions old fresh)
    (tests_are old fresh ∙ and_from (keys_rise fresh) (list_all (λ k. not (is_ignored k) && (not (has_key (keysyms old) k) && true)) fresh) a.rise
    (both_of (λ k. not (is_ignored k)) (λ k. not (has_key (keysyms old) k)) fresh a.none_ignored a.none_used))
