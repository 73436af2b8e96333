-- The position of an entry in an index by character.
use Rattle.std.proofs.Common.{◌≡◌, ◌≢◌, ◌≤◌, ◌<◌, ◌+◌, ◌*◌, ℕ, zero, suc, Bool, true, false, ◌||◌, ◌==◌, List, [], ◌∷◌, length, get_or, refl, sym, ap, ◌∙◌, arith, rules, eqb-true, eq-eqb, ltb, ⊎_elim}
use Rattle.std.proofs.lemmas.Bool.{true≢false, and_parts, ltb-true, ltb-false, cases_lt}
use Rattle.std.specs.Prelude.{Some, None}
use Rattle.std.specs.List.{list_any}
use Rattle.std.specs.List.Sorted.{IsNonDecreasingBy, IsPartitionPoint}
use Rattle.keysym_core.specs.Keysym.{max_keysym}
use Rattle.keysym_core.specs.GivenCharacters.{rank, is_pair}
use Rattle.keysym_core.specs.Next.{IsLeastFrom}

-- the index of an entry of k and c
pub record EntryAt (c k : ℕ) (entries : List (ℕ × ℕ)) (d : ℕ × ℕ) : Type 0 where
  pub index : ℕ
  pub inside : index < length entries
  pub character : (get_or entries index d).1 ≡ c
  pub value : (get_or entries index d).0 ≡ k

-- an entry that a test finds has an index
pub entry_index : (c k : ℕ) (entries : List (ℕ × ℕ)) (d : ℕ × ℕ) → list_any (is_pair c k) entries ≡ true → EntryAt c k entries d
entry_index c k [] d h = absurd (true≢false (sym h))
entry_index c k (row ∷ entries) d h = by (is_pair c k row) refl h (entry_index c k entries d)
  where
    by : (b : Bool) → is_pair c k row ≡ b → (b || list_any (is_pair c k) entries) ≡ true → (list_any (is_pair c k) entries ≡ true → EntryAt c k entries d) → EntryAt c k (row ∷ entries) d
    by true e h others =
        let parts = and_parts (row.1 == c) (row.0 == k) e in
        record { index = 0; inside = omega arith; character = eqb-true row.1 c parts.0; value = eqb-true row.0 k parts.1 }
    by false e h others =
        let rest = others h in
        record { index = suc rest.index; inside = omega (arith, rest.inside); character = rest.character; value = rest.value }

-- a disjunction whose second part is true
or-true : (a b : Bool) → b ≡ true → (a || b) ≡ true
or-true true b h = refl
or-true false b h = h

-- an entry at an index is found
pub entry_found : (entries : List (ℕ × ℕ)) (i : ℕ) (d : ℕ × ℕ) → i < length entries → list_any (is_pair (get_or entries i d).1 (get_or entries i d).0) entries ≡ true
entry_found [] i d h = absurd (omega (arith, h))
entry_found (row ∷ entries) zero d h =
    let own : is_pair row.1 row.0 row ≡ true = search (rules, eq-eqb row.1 row.1 refl, eq-eqb row.0 row.0 refl) in
    ap (λ b. b || list_any (is_pair row.1 row.0) entries) own
entry_found (row ∷ entries) (suc i) d h = or-true (is_pair (get_or entries i d).1 (get_or entries i d).0 row) _ (entry_found entries i d (omega (arith, h)))

module _ (entries : List (ℕ × ℕ)) (d : ℕ × ℕ) (c low index : ℕ)
    (sorted : IsNonDecreasingBy rank entries)
    (keysyms : (x k : ℕ) → list_any (is_pair x k) entries ≡ true → k ≤ max_keysym)
    (split : IsPartitionPoint (λ (e : ℕ × ℕ). ltb (rank e) (c * 0x1_0000_0000 + low) ≡ true) (λ (e : ℕ × ℕ). ltb (rank e) (c * 0x1_0000_0000 + low) ≡ false) entries index) where
  -- an entry not below `low` is at the index or after it
  pub after_index : (k : ℕ) → low ≤ k → (e : EntryAt c k entries d) → index ≤ e.index
  after_index k more e = ⊎_elim
      (λ before. absurd
      (let low_rank = ltb-true (rank (get_or entries e.index d)) (c * 0x1_0000_0000 + low) (split.0 e.index d (omega arith) before) in omega (arith, low_rank, e.character, e.value, more)))
      (λ after. after)
      (cases_lt e.index index)

  -- after all entries there is none
  pub none_later : length entries ≤ index → IsLeastFrom low (λ k. list_any (is_pair c k) entries ≡ true) None
  none_later past = λ k more there.
      let e = entry_index c k entries d there in
      omega (arith, after_index k more e, e.inside)

  -- if the entry at the index has another character, there is none
  pub none_of_another : index < length entries → (get_or entries index d).1 ≢ c → IsLeastFrom low (λ k. list_any (is_pair c k) entries ≡ true) None
  none_of_another inside other = λ k more there.
      let e = entry_index c k entries d there in
      let later = sorted index e.index d (after_index k more e) e.inside in
      let from = ltb-false (rank (get_or entries index d)) (c * 0x1_0000_0000 + low) (split.1 index d (omega arith) inside) in
      let small = keysyms (get_or entries index d).1 (get_or entries index d).0 (entry_found entries index d inside) in
      let keysym = keysyms c k there in
      omega (arith, later, from, small, keysym, e.character, e.value, other)

  -- the entry at the index is the least
  pub least_at_index : index < length entries → (get_or entries index d).1 ≡ c → IsLeastFrom low (λ k. list_any (is_pair c k) entries ≡ true) (Some (get_or entries index d).0)
  least_at_index inside same =
      let from = ltb-false (rank (get_or entries index d)) (c * 0x1_0000_0000 + low) (split.1 index d (omega arith) inside) in (
        omega (arith, from, same),
        ap (λ x. list_any (is_pair x (get_or entries index d).0) entries) (sym same) ∙ entry_found entries index d inside,
        λ j more there.
            let e = entry_index c j entries d there in
            let later = sorted index e.index d (after_index j more e) e.inside in
            omega (arith, later, same, e.character, e.value),
      )
