-- Keysyms that are sorted and kept once each are the rising ones.
use Rattle.std.proofs.Common.{◌≡◌, ℕ, List, Bool, true, false, get_or, refl, sym, ◌∙◌, subst, nat_cmp}
use Rattle.std.specs.Prelude.{Contains, nat_eq, ◌==◌}
use Rattle.std.specs.List.{dedup}
use Rattle.std.specs.List.Sorted.{IsPermutation, IsSorted, IsStrictlySortedBy}
use Rattle.std.proofs.lemmas.Bool.{eq-eqb, eqb-true}
use Rattle.std.proofs.lemmas.Cmp.{nat_cmp_total}
use Rattle.std.proofs.lemmas.List.Kept.{Contains-dedup_nat, Contains-from_dedup}
use Rattle.std.proofs.lemmas.List.Sorted.{Contains-permutation, IsPermutation-sym}
use Rattle.std.proofs.lemmas.Map.Lookups.{exact_unsigned}
use Rattle.std.proofs.lemmas.Map.Keys.{IsStrictlyIncreasing-dedup, sorted_from_strictly_increasing}
use Rattle.std.proofs.lemmas.Map.Views.{Contains-from_any}
use Rattle.compose_model.specs.Table.{has_key}
use Rattle.compose_model.specs.Nodes.{rising}
use Rattle.compose_model.proofs.Sorted.{rising_sorted}
use Rattle.compose_model.proofs.Tests.{list_any-rising}
use Rattle.compose_tree.proofs.Prefixes.{one_rising_keys}
use Rattle.compose_check.proofs.Lists.{one_passes}

has : (xs : List ℕ) (x : ℕ) → Contains xs x → has_key xs x ≡ true
has xs x h = one_passes (λ j. x == j) x xs h.0 h.1 (eq-eqb x (get_or xs h.0 x) (sym h.2))

alike : (a b : Bool) → (a ≡ true → b ≡ true) → (b ≡ true → a ≡ true) → a ≡ b
alike true b f g = sym (f refl)
alike false true f g = g refl
alike false false f g = refl

-- each key of one list occurs in the other one
same_keys : (xs ys : List ℕ) → ((x : ℕ) → Contains xs x → Contains ys x) → ((x : ℕ) → Contains ys x → Contains xs x) → (k : ℕ) → has_key ys k ≡ has_key xs k
same_keys xs ys to from k =
    alike (has_key ys k) (has_key xs k) (λ e. has xs k (from k (Contains-from_any eqb-true k ys e))) (λ e. has ys k (to k (Contains-from_any eqb-true k xs e)))

-- keysyms that are sorted and kept once each are the rising ones of those that were given
pub rising_is : (keys sorted fresh : List ℕ) → IsPermutation keys sorted → IsSorted nat_cmp sorted → fresh ≡ dedup nat_eq sorted → fresh ≡ rising nat_cmp keys
rising_is keys sorted fresh moved in_order is =
    let strict : IsStrictlySortedBy nat_cmp (dedup nat_eq sorted) = sorted_from_strictly_increasing (dedup nat_eq sorted) (IsStrictlyIncreasing-dedup sorted in_order) in
    let same =
    same_keys keys fresh (λ x h. rw is (Contains-dedup_nat sorted x (Contains-permutation keys sorted x moved h)))
    (λ x h. Contains-permutation sorted keys x (IsPermutation-sym keys sorted moved) (Contains-from_dedup nat_eq sorted x (rw is at h))) in
    one_rising_keys fresh (rising nat_cmp keys) (subst (IsStrictlySortedBy nat_cmp) (sym is) strict) (rising_sorted nat_cmp_total keys)
    (λ q. same q ∙ sym (list_any-rising nat_cmp exact_unsigned (λ j. q == j) keys))
