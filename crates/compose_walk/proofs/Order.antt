-- The order in which what was found is put: no two have the same keys, so the evidence rises.
use Rattle.std.proofs.Common.{◌≡◌, ℕ, suc, ◌+◌, List, [], ◌∷◌, ◌++◌, Bool, true, false, cond, not, ◌&&◌, length, get_or, map, refl, sym, ◌∙◌, ap, ap₂, subst, inl, inr, arith, length-append, eqb-true, eq-eqb, Ordering, Less, Equal, Greater, nat_cmp}
use Rattle.std.specs.Prelude.{◌==◌, nat_lt, unwrap_or}
use Rattle.std.specs.List.{list_any, filter, flat_map, IsDistinct, All, AllByRecursion}
use Rattle.std.specs.List.Sorted.{IsPermutation, IsSortedBy, IsStrictlySortedBy}
use Rattle.std.specs.Ordering.{ordering_then, is_lt}
use Rattle.std.specs.Cmp.Lexicographic.{slice_cmp}
use Rattle.std.proofs.lemmas.Bool.{ltb-true, and_parts, and_from, or_cases, or_left, or_right, not-true, ne_eqb}
use Rattle.std.proofs.lemmas.Cmp.{nat_cmp_total, nat_eq_equiv, tied_itself}
use Rattle.std.proofs.lemmas.List.Elements.{All-from_recursion, recursion_from_All}
use Rattle.std.proofs.lemmas.List.Sorted.{All-permutation, list_any-IsPermutation}
use Rattle.std.proofs.lemmas.Map.Keys.{IsDistinct-IsPermutation}
use Rattle.std.proofs.lemmas.List.Kept.{IsStrictlySortedBy-filter}
use Rattle.keysym_core.specs.Names.{KeysymNames}
use Rattle.compose_model.specs.Table.{Definition, same, has_key, is_table}
use Rattle.compose_model.specs.Follows.{text_differs}
use Rattle.compose_model.specs.Certificate.{AreFresh}
use Rattle.compose_model.specs.Nodes.{nodes, is_node, node, number_of, has_edge, edges}
use Rattle.compose_model.proofs.NodeLemmas.{same_is, same_from, node_at_number, root_number, zero_is_root, listed_edge}
use Rattle.compose_model.proofs.Sorted.{nodes_sorted}
use Rattle.compose_model.proofs.Tests.{list_any-map}
use Rattle.compose_tree.proofs.OneMore.{edges_sorted}
use Rattle.compose_walk.specs.Evidence.{Evidence, IsDifference, AreDifferences, comes_first, differences_rise}
use Rattle.compose_walk.specs.Pass.{differs_at, agrees, is_differing_start, differing_starts, evidence}
use Rattle.compose_walk.specs.Stands.{found_at, found_behind, all_found, comes_sooner, IsPlace, evidence_found}
use Rattle.compose_walk.specs.declared.pass.Found.{Found}
use Rattle.compose_walk.proofs.NodeNumbers.{numbers_rise}
use Rattle.compose_walk.proofs.Candidates.{candidate_is, difference_is_candidate}
use Rattle.compose_walk.proofs.Founds.{Has, all_append, all_filtered, all_flat, in_order, IsFound, all_are_found, has_candidate, place_of, evidence_of}

-- ---- the order of the three numbers

lt_is : (x y : ℕ) (o : Ordering) → is_lt (ordering_then (nat_cmp x y) o) ≡ cond (x == y) (is_lt o) (nat_lt x y)
lt_is x y o = go (nat_lt x y) refl (x == y) refl
  where
    go : (b : Bool) → nat_lt x y ≡ b → (c : Bool) → x == y ≡ c → is_lt (ordering_then (cond b Less (cond c Equal Greater)) o) ≡ cond c (is_lt o) b
    go true l true e = absurd (let m = ltb-true x y l in let n = eqb-true x y e in omega arith)
    go true l false e = refl
    go false l true e = refl
    go false l false e = refl

-- by the numbers of keys, then by the nodes, then by the last keys
pub sooner_is : (a b : Found) → is_lt (ordering_then (ordering_then (nat_cmp a.depth b.depth) (nat_cmp a.node b.node)) (nat_cmp a.keysym b.keysym)) ≡ comes_sooner a b
sooner_is a b =
    ap is_lt (regrouped (nat_cmp a.depth b.depth) (nat_cmp a.node b.node) (nat_cmp a.keysym b.keysym))
    ∙ lt_is a.depth b.depth (ordering_then (nat_cmp a.node b.node) (nat_cmp a.keysym b.keysym))
    ∙ ap (λ x. cond (a.depth == b.depth) x (nat_lt a.depth b.depth))
    (lt_is a.node b.node (nat_cmp a.keysym b.keysym) ∙ ap (λ x. cond (a.node == b.node) x (nat_lt a.node b.node)) (last (nat_lt a.keysym b.keysym) (a.keysym == b.keysym)))
  where
    regrouped : (x y z : Ordering) → ordering_then (ordering_then x y) z ≡ ordering_then x (ordering_then y z)
    regrouped Less y z = refl
    regrouped Equal y z = refl
    regrouped Greater y z = refl

    last : (l e : Bool) → is_lt (cond l Less (cond e Equal Greater)) ≡ l
    last true e = refl
    last false true = refl
    last false false = refl

-- ---- no two are the same

-- they have the same node and the same last key
abbrev pub same_place : Found → Found → Bool
same_place a b = a.node == b.node && a.keysym == b.keysym

same_flips : (a b : Found) → same_place a b ≡ same_place b a
same_flips a b = ap₂ (λ x y. x && y) (nat_eq_equiv.symm a.node b.node) (nat_eq_equiv.symm a.keysym b.keysym)

other_node : (a b : Found) → (a.node ≡ b.node → ⊥) → same_place a b ≡ false
other_node a b n = ap (λ x. x && a.keysym == b.keysym) (ne_eqb a.node b.node n)

other_key : (a b : Found) → (a.keysym ≡ b.keysym → ⊥) → same_place a b ≡ false
other_key a b n = ap (λ x. a.node == b.node && x) (ne_eqb a.keysym b.keysym n) ∙ and_none (a.node == b.node)
  where
    and_none : (c : Bool) → c && false ≡ false
    and_none true = refl
    and_none false = refl

distinct_joined : (xs ys : List Found) → IsDistinct same_place xs → IsDistinct same_place ys → AllByRecursion (λ x. AllByRecursion (λ y. same_place x y ≡ false) ys) xs
    → IsDistinct same_place (xs ++ ys)
unfolding IsDistinct
distinct_joined [] ys a b c = b
distinct_joined (x ∷ xs) ys a b c = (all_append (λ y. same_place x y ≡ false) xs ys a.0 c.0, distinct_joined xs ys a.1 b c.1)

less_than : (j k : ℕ) → nat_cmp j k ≡ Less → j ≡ k → ⊥
less_than j k h e = let clash : Less ≡ Equal = sym h ∙ ap (nat_cmp j) (sym e) ∙ tied_itself nat_cmp_total j in cc

module _ (old : List Definition) (p : List ℕ) where
  -- rising keys at one node
  distinct_keys : (ks : List ℕ) → IsStrictlySortedBy nat_cmp ks → IsDistinct same_place (map (found_at old p) ks)
  unfolding IsDistinct IsStrictlySortedBy
  distinct_keys [] s = tt
  distinct_keys (k ∷ ks) s = (apart ks s.0, distinct_keys ks s.1)
    where
      apart : (js : List ℕ) → AllByRecursion (λ j. nat_cmp k j ≡ Less) js → AllByRecursion (λ f. same_place (found_at old p k) f ≡ false) (map (found_at old p) js)
      apart [] a = tt
      apart (j ∷ js) a = (other_key (found_at old p k) (found_at old p j) (less_than k j a.0), apart js a.1)

  distinct_filtered : (table : List Definition) (x : List ℕ) (q : ℕ → Bool) → IsDistinct same_place (map (found_at old p) (filter q (edges table x)))
  distinct_filtered table x q = distinct_keys (filter q (edges table x)) (IsStrictlySortedBy-filter nat_cmp q (edges table x) (edges_sorted table x))

any_less : (p q : List ℕ) (ps : List (List ℕ)) → AllByRecursion (λ r. slice_cmp nat_cmp p r ≡ Less) ps → list_any (same q) ps ≡ true → slice_cmp nat_cmp p q ≡ Less
any_less p q [] a h = cc
any_less p q (r ∷ ps) a h = elim (or_cases (same q r) (list_any (same q) ps) h) [ inl e ↦ ap (slice_cmp nat_cmp p) (same_is q r e) ∙ a.0 | inr e ↦ any_less p q ps a.1 e ]

module _ (names : KeysymNames) (fresh : List ℕ) (old new : List Definition) where
  found_distinct : (p : List ℕ) → IsDistinct same_place (found_behind names old new p)
  unfolding IsDistinct
  found_distinct p = go (agrees names old new p)
    where
      go : (b : Bool) → IsDistinct same_place (map (found_at old p) (cond b (filter (differs_at names old new p) (edges old p)) []))
      go true = distinct_filtered old p old p (differs_at names old new p)
      go false = tt

  -- what is true of each key at a node
  each_behind : (P : Found → Type 0) (p : List ℕ) → ((k : ℕ) → has_edge old p k ≡ true → P (found_at old p k)) → AllByRecursion P (found_behind names old new p)
  each_behind P p h = go (agrees names old new p)
    where
      go : (b : Bool) → AllByRecursion P (map (found_at old p) (cond b (filter (differs_at names old new p) (edges old p)) []))
      go true = all_filtered P (found_at old p) (differs_at names old new p) (edges old p) (λ k m d. h k (listed_edge old p k m))
      go false = tt

  distinct_nodes : (ps : List (List ℕ)) → IsStrictlySortedBy (slice_cmp nat_cmp) ps → ((q : List ℕ) → list_any (same q) ps ≡ true → is_node old q ≡ true)
      → IsDistinct same_place (flat_map (found_behind names old new) ps)
  unfolding IsDistinct IsStrictlySortedBy
  distinct_nodes [] s inside = tt
  distinct_nodes (p ∷ ps) s inside =
      distinct_joined (found_behind names old new p) (flat_map (found_behind names old new) ps) (found_distinct p)
      (distinct_nodes ps s.1 (λ q m. inside q (or_right (same q p) (list_any (same q) ps) m)))
      (each_behind (λ x. AllByRecursion (λ y. same_place x y ≡ false) (flat_map (found_behind names old new) ps)) p (λ k e.
      all_flat (λ y. same_place (found_at old p k) y ≡ false) (found_behind names old new) ps (λ q m.
      each_behind (λ y. same_place (found_at old p k) y ≡ false) q (λ j i. other_node (found_at old p k) (found_at old q j) (λ n.
      (let less = numbers_rise old p q here (inside q (or_right (same q p) (list_any (same q) ps) m)) (any_less p q ps s.0 m) in omega arith))))))
    where
      here : is_node old p ≡ true
      here = inside p (or_left (same p p) (list_any (same p) ps) (same_from p p refl))

  pub all_distinct : IsDistinct same_place (all_found names fresh old new (nodes old))
  all_distinct =
      distinct_joined (map (found_at old []) (differing_starts names fresh old new)) (flat_map (found_behind names old new) (nodes old))
      (distinct_filtered old [] new [] (is_differing_start names fresh old new))
      (distinct_nodes (nodes old) (nodes_sorted old) (λ q m. m))
      (all_filtered (λ x. AllByRecursion (λ y. same_place x y ≡ false) (flat_map (found_behind names old new) (nodes old))) (found_at old []) (is_differing_start names fresh old new) (edges new [])
      (λ k m d.
      all_flat (λ y. same_place (found_at old [] k) y ≡ false) (found_behind names old new) (nodes old)
      (λ q n. each_behind (λ y. same_place (found_at old [] k) y ≡ false) q (λ j e. apart k q j d n e))))
    where
      apart : (k : ℕ) (q : List ℕ) (j : ℕ) → is_differing_start names fresh old new k ≡ true → is_node old q ≡ true → has_edge old q j ≡ true
          → same_place (found_at old [] k) (found_at old q j) ≡ false
      apart k q j d n e = go (same_place (found_at old [] k) (found_at old q j)) refl
        where
          go : (b : Bool) → same_place (found_at old [] k) (found_at old q j) ≡ b → b ≡ false
          go false h = refl
          go true h = absurd (
              let both = and_parts (number_of old [] == number_of old q) (k == j) h in
              let at : number_of old q ≡ 0 = sym (eqb-true (number_of old []) (number_of old q) both.0) ∙ root_number old in
              let root : q ≡ [] = zero_is_root old q n at in
              let key : k ≡ j = eqb-true k j both.1 in
              let none : has_edge old [] k ≡ false = not-true (has_edge old [] k) (and_parts (not (has_edge old [] k)) (not (has_key fresh k) && differs_at names old new [] k) d).0 in
              let clash : true ≡ false = sym e ∙ ap₂ (has_edge old) root (sym key) ∙ none in cc)

-- ---- so their evidence rises

last_same : (p q : List ℕ) (k j : ℕ) → p ++ k ∷ [] ≡ q ++ j ∷ [] → (p ≡ q) × (k ≡ j)
last_same [] [] k j e = (refl, (let same_key : k ≡ j = cc in same_key))
last_same [] (y ∷ q) k j e = absurd (let n : length (q ++ j ∷ []) ≡ length q + 1 = length-append q (j ∷ []) in let m : length ([] ++ k ∷ []) ≡ length (y ∷ q ++ j ∷ []) = ap length e in omega arith)
last_same (x ∷ p) [] k j e = absurd (let n : length (p ++ k ∷ []) ≡ length p + 1 = length-append p (k ∷ []) in let m : length (x ∷ p ++ k ∷ []) ≡ length ([] ++ j ∷ []) = ap length e in omega arith)
last_same (x ∷ p) (y ∷ q) k j e =
    let t : p ++ k ∷ [] ≡ q ++ j ∷ [] = cc in
    let r = last_same p q k j t in
    let first : x ≡ y = cc in
    (ap₂ (λ z zs. z ∷ zs) first r.0, r.1)

any_has : {X : Type 0} (q : X → Bool) (x : X) (xs : List X) → Has x xs → q x ≡ true → list_any q xs ≡ true
any_has q x [] h t = absurd h
any_has q x (y ∷ ys) (inl e) t = or_left (q y) (list_any q ys) (ap q e ∙ t)
any_has q x (y ∷ ys) (inr h) t = or_right (q y) (list_any q ys) (any_has q x ys h t)

module _ (names : KeysymNames) (fresh : List ℕ) (old new : List Definition) (t_old : is_table old ≡ true) (t_new : is_table new ≡ true) (are : AreFresh fresh old) where
  abbrev WasFound : Found → Type 0
  WasFound f = IsFound names fresh old new t_old t_new are f

  keys_are : (f : Found) (h : WasFound f) → (evidence_found names old new f).keys ≡ h.before ++ h.key ∷ []
  keys_are f h = ap₂ (λ p k. p ++ k ∷ []) (ap (node old) (ap (λ (g : Found). g.node) h.is) ∙ node_at_number old h.before h.candidate.clear.reached.node) (ap (λ (g : Found). g.keysym) h.is)

  is_difference : (f : Found) → WasFound f → IsDifference names fresh old new (evidence_found names old new f)
  is_difference f h =
      let reported =
      evidence_of names fresh old new t_old t_new are f h (evidence_found names old new f)
      (λ kind e. ap (λ o. evidence names old new (node old f.node) f.keysym (unwrap_or o text_differs)) e) in
      subst (λ (x : Evidence). IsDifference names fresh old new x) (sym reported.2) (candidate_is names fresh old new t_old t_new are h.before h.key reported.0 h.candidate reported.1)

  each_difference : (xs : List Found) → AllByRecursion WasFound xs → AllByRecursion (IsDifference names fresh old new) (map (evidence_found names old new) xs)
  each_difference [] a = tt
  each_difference (f ∷ xs) a = (is_difference f a.0, each_difference xs a.1)

  comes_next : (f g : Found) → WasFound f → WasFound g → comes_sooner g f ≡ false → same_place f g ≡ false
      → comes_first (evidence_found names old new f).keys (evidence_found names old new g).keys ≡ true
  comes_next f g hf hg later other =
      ap₂ comes_first (keys_are f hf) (keys_are g hg)
      ∙ elim (in_order old hf.before hg.before hf.key hg.key hf.candidate.clear.reached.node hg.candidate.clear.reached.node (ap₂ comes_sooner (sym hg.is) (sym hf.is) ∙ later)) [
        | inl e ↦ absurd (
            let same_keys = last_same hf.before hg.before hf.key hg.key e in
            let is : f ≡ g = hf.is ∙ ap₂ (found_at old) same_keys.0 same_keys.1 ∙ sym hg.is in
            let tied : same_place f f ≡ true = and_from (f.node == f.node) (f.keysym == f.keysym) (eq-eqb f.node f.node refl) (eq-eqb f.keysym f.keysym refl) in
            let clash : true ≡ false = sym tied ∙ ap (same_place f) is ∙ other in cc)
        | inr e ↦ e
      ]

  evidence_rises : (xs : List Found) → AllByRecursion WasFound xs → IsSortedBy comes_sooner xs → IsDistinct same_place xs → differences_rise (map (evidence_found names old new) xs) ≡ true
  unfolding IsDistinct
  evidence_rises [] a s d = refl
  evidence_rises (f ∷ []) a s d = refl
  evidence_rises (f ∷ g ∷ xs) a s d =
      and_from (comes_first (evidence_found names old new f).keys (evidence_found names old new g).keys) (differences_rise (map (evidence_found names old new) (g ∷ xs)))
      (comes_next f g a.0 a.1.0 (s 0 f (omega arith) (omega arith)) d.0.0)
      (evidence_rises (g ∷ xs) a.1 (λ k e low high. ap (λ n. comes_sooner (get_or (f ∷ g ∷ xs) n e) (get_or (g ∷ xs) k e)) (moved k) ∙ s (suc k) e (omega arith) (omega arith)) d.1)
    where
      moved : (k : ℕ) → suc (k + 1) ≡ suc k + 1
      moved k = omega arith

  all_ordered : (xs : List Found) → IsPermutation (all_found names fresh old new (nodes old)) xs → All WasFound xs
  all_ordered xs moved =
      All-permutation WasFound (all_found names fresh old new (nodes old)) xs moved
      (All-from_recursion WasFound (all_found names fresh old new (nodes old)) (all_are_found names fresh old new t_old t_new are))

  -- in whatever order all that is found is put, each is a place at which the tables first differ
  pub all_placed : (xs : List Found) → IsPermutation (all_found names fresh old new (nodes old)) xs → All (IsPlace names old new) xs
  all_placed xs moved k d low = place_of names fresh old new t_old t_new are (get_or xs k d) (all_ordered xs moved k d low)

  -- what was found, in order, is all differences
  pub all_differences : (xs : List Found) → IsPermutation (all_found names fresh old new (nodes old)) xs → IsSortedBy comes_sooner xs
      → AreDifferences names fresh old new (map (evidence_found names old new) xs)
  all_differences xs moved sorted = record {
    each = each_difference xs found;
    all = among;
    rise = evidence_rises xs found sorted (IsDistinct-IsPermutation same_place same_flips (all_found names fresh old new (nodes old)) xs moved (all_distinct names fresh old new));
  }
    where
      found : AllByRecursion WasFound xs
      found = recursion_from_All WasFound xs (all_ordered xs moved)

      among : (x : Evidence) → IsDifference names fresh old new x → list_any (λ y. same y.keys x.keys) (map (evidence_found names old new) xs) ≡ true
      among x d =
          let c = difference_is_candidate names fresh old new x d in
          let is : same (evidence_found names old new (found_at old c.0 c.1)).keys x.keys ≡ true =
          same_from (evidence_found names old new (found_at old c.0 c.1)).keys x.keys (ap (λ p. p ++ c.1 ∷ []) (node_at_number old c.0 c.2.clear.reached.node) ∙ sym c.3) in
          list_any-map (λ (y : Evidence). same y.keys x.keys) (evidence_found names old new) xs
          ∙ sym (list_any-IsPermutation (λ (f : Found). same (evidence_found names old new f).keys x.keys) (all_found names fresh old new (nodes old)) xs moved)
          ∙ any_has (λ (f : Found). same (evidence_found names old new f).keys x.keys) (found_at old c.0 c.1) (all_found names fresh old new (nodes old))
          (has_candidate names fresh old new t_old t_new are c.0 c.1 c.2) is
