-- What the pass finds are the candidates, and their order is that of evidence.
use Rattle.std.proofs.Common.{◌≡◌, ◌⊎◌, ℕ, zero, suc, ◌+◌, ◌<◌, List, [], ◌∷◌, ◌++◌, Bool, true, false, cond, not, ◌&&◌, length, get_or, map, refl, sym, ◌∙◌, ap, ap₂, subst, inl, inr, arith, length-append, eqb-true, eq-eqb, lt-ltb, Option, Some, None, Ordering, Less, Equal, Greater, nat_cmp}
use Rattle.std.specs.Prelude.{◌==◌, nat_lt, is_some}
use Rattle.std.specs.List.{list_any, filter, flat_map, AllByRecursion, IsFirstBest}
use Rattle.std.specs.Ordering.{ordering_then, ordering_reverse, is_lt}
use Rattle.std.specs.Cmp.Lexicographic.{slice_cmp}
use Rattle.std.proofs.lemmas.Cmp.{nat_list_cmp_total, nat_cmp_total, tied_itself}
use Rattle.std.proofs.lemmas.Map.Lookups.{exact_bytes}
use Rattle.std.proofs.lemmas.Bool.{and_parts, and_from, or_cases, or_left, or_right, not-true, not_from_false, cases_lt, ltb-false, eqb-false, ne_eqb}
use Rattle.keysym_core.specs.Keysym.{is_ignored}
use Rattle.keysym_core.specs.Names.{KeysymNames}
use Rattle.compose_model.specs.Table.{Definition, same, has_key, is_table, comes_before}
use Rattle.compose_model.specs.Step.{step, pending, pending_after}
use Rattle.compose_model.specs.Follows.{AgreeAlong, Follows, Kind, difference}
use Rattle.compose_model.specs.Nodes.{nodes, is_node, node, number_of, has_edge, edges}
use Rattle.compose_model.specs.Certificate.{AreFresh, walked_pairs, Simulates}
use Rattle.compose_model.proofs.NodeLemmas.{same_is, same_from, node_at_number, number_below, root_is_node, listed_edge, edge_listed}
use Rattle.compose_model.proofs.Reached.{node_reached}
use Rattle.compose_model.proofs.Avoids.{node_avoids}
use Rattle.compose_model.proofs.Exact.{walked_simulate, refutes}
use Rattle.compose_model.proofs.Sorted.{walked_rise}
use Rattle.compose_walk.specs.Evidence.{Evidence, Shows, IsLeast, comes_first}
use Rattle.compose_walk.specs.Pass.{difference_at, differs_at, agrees_from, agrees, is_differing_start, differing_starts, evidence}
use Rattle.compose_walk.specs.Stands.{without_last, last_key, stand, found_at, found_behind, all_found, comes_sooner, IsPlace, partner_pairs}
use Rattle.compose_walk.specs.Walks.{IsFollower}
use Rattle.compose_walk.specs.declared.pass.Found.{Found}
use Rattle.compose_walk.proofs.Reduction.{agreement, no_difference, Clear, Candidate}
use Rattle.compose_walk.proofs.Candidates.{least_from, follows_without, candidate_shows, candidate_fed}
use Rattle.compose_walk.proofs.NodeNumbers.{number_at_node, numbers_rise}

-- ---- agreement, as a test and as a fact

none_of : (o : Option Kind) → not (is_some o) ≡ true → o ≡ None
none_of None h = refl
none_of (Some x) h = cc

pub along_of : (names : KeysymNames) (old new : List Definition) (u v w : List ℕ) → agrees_from names old new u v w ≡ true → AgreeAlong names old new u v w
along_of names old new u v [] h = tt
along_of names old new u v (k ∷ w) h =
    let parts = and_parts (not (is_some (difference (step names old u k) (step names new v k)))) (agrees_from names old new (pending_after old u k) (pending_after new v k) w) h in (
      agreement (step names old u k) (step names new v k) (none_of (difference (step names old u k) (step names new v k)) parts.0),
      along_of names old new (pending_after old u k)
          (pending_after new v k) w parts.1,
    )

pub agrees_of : (names : KeysymNames) (old new : List Definition) (u v w : List ℕ) → AgreeAlong names old new u v w → agrees_from names old new u v w ≡ true
agrees_of names old new u v [] a = refl
agrees_of names old new u v (k ∷ w) a =
    and_from (not (is_some (difference (step names old u k) (step names new v k)))) (agrees_from names old new (pending_after old u k) (pending_after new v k) w)
    (ap (λ o. not (is_some o)) (no_difference (step names old u k) (step names new v k) a.0)) (agrees_of names old new (pending_after old u k) (pending_after new v k) w a.1)

-- ---- elements of lists that are put together

-- x is an element
abbrev pub Has : {X : Type 0} → X → List X → Type 0
Has x [] = ⊥
Has x (y ∷ ys) = (y ≡ x) ⊎ Has x ys

pub has_index : {X : Type 0} (x : X) (xs : List X) → Has x xs → (i : ℕ) × (i < length xs) × ((d : X) → get_or xs i d ≡ x)
has_index x [] h = absurd h
has_index x (y ∷ ys) (inl e) = (zero, omega arith, λ d. e)
has_index x (y ∷ ys) (inr h) = let r = has_index x ys h in (suc r.0, (let l = r.1 in omega arith), r.2)

has_left : {X : Type 0} (x : X) (xs ys : List X) → Has x xs → Has x (xs ++ ys)
has_left x [] ys h = absurd h
has_left x (y ∷ xs) ys (inl e) = inl e
has_left x (y ∷ xs) ys (inr h) = inr (has_left x xs ys h)

has_right : {X : Type 0} (x : X) (xs ys : List X) → Has x ys → Has x (xs ++ ys)
has_right x [] ys h = h
has_right x (y ∷ xs) ys h = inr (has_right x xs ys h)

has_filtered : {Y : Type 0} (f : ℕ → Y) (q : ℕ → Bool) (k : ℕ) (xs : List ℕ) → has_key xs k ≡ true → q k ≡ true → Has (f k) (map f (filter q xs))
has_filtered f q k [] m h = cc
has_filtered f q k (x ∷ xs) m h = go (q x) refl (or_cases (k == x) (has_key xs k) m) (λ n. has_filtered f q k xs n h)
  where
    go : (b : Bool) → q x ≡ b → (k == x ≡ true) ⊎ (has_key xs k ≡ true) → (has_key xs k ≡ true → Has (f k) (map f (filter q xs))) → Has (f k) (map f (cond b (x ∷ filter q xs) (filter q xs)))
    go true e (inl i) later = inl (ap f (sym (eqb-true k x i)))
    go true e (inr n) later = inr (later n)
    go false e (inl i) later = absurd (let clash : true ≡ false = sym (ap q (sym (eqb-true k x i)) ∙ h) ∙ e in cc)
    go false e (inr n) later = later n

has_flat : {Y : Type 0} (f : List ℕ → List Y) (y : Y) (p : List ℕ) (ps : List (List ℕ)) → list_any (same p) ps ≡ true → Has y (f p) → Has y (flat_map f ps)
has_flat f y p [] m h = cc
has_flat f y p (q ∷ ps) m h = elim (or_cases (same p q) (list_any (same p) ps) m) [
  | inl e ↦ has_left y (f q) (flat_map f ps) (subst (λ (r : List ℕ). Has y (f r)) (same_is p q e) h)
  | inr n ↦ has_right y (f q) (flat_map f ps) (has_flat f y p ps n h)
]

-- what holds for each element of two lists holds for each of the two put together
pub all_append : {X : Type 0} (P : X → Type 0) (xs ys : List X) → AllByRecursion P xs → AllByRecursion P ys → AllByRecursion P (xs ++ ys)
all_append P [] ys a b = b
all_append P (x ∷ xs) ys a b = (a.0, all_append P xs ys a.1 b)

-- what holds for the value of each keysym of a list that passes a test holds for each value of
-- those that pass
pub all_filtered : {Y : Type 0} (P : Y → Type 0) (f : ℕ → Y) (q : ℕ → Bool) (xs : List ℕ) → ((k : ℕ) → has_key xs k ≡ true → q k ≡ true → P (f k)) → AllByRecursion P (map f (filter q xs))
all_filtered P f q [] h = tt
all_filtered P f q (x ∷ xs) h = go (q x) refl (all_filtered P f q xs (λ k m n. h k (or_right (k == x) (has_key xs k) m) n))
  where
    go : (b : Bool) → q x ≡ b → AllByRecursion P (map f (filter q xs)) → AllByRecursion P (map f (cond b (x ∷ filter q xs) (filter q xs)))
    go true e a = (h x (or_left (x == x) (has_key xs x) (eq-eqb x x refl)) e, a)
    go false e a = a

-- what holds for all that comes of each list holds for all that comes of the lists together
pub all_flat : {Y : Type 0} (P : Y → Type 0) (f : List ℕ → List Y) (ps : List (List ℕ)) → ((p : List ℕ) → list_any (same p) ps ≡ true → AllByRecursion P (f p)) → AllByRecursion P (flat_map f ps)
all_flat P f [] h = tt
all_flat P f (p ∷ ps) h =
    all_append P (f p) (flat_map f ps) (h p (or_left (same p p) (list_any (same p) ps) (same_from p p refl))) (all_flat P f ps (λ q m. h q (or_right (same q p) (list_any (same q) ps) m)))

pub all_index : {X : Type 0} (P : X → Type 0) (xs : List X) (i : ℕ) (x : X) → AllByRecursion P xs → i < length xs → x ≡ get_or xs i x → P x
all_index P [] i x a h e = absurd (omega arith)
all_index P (y ∷ ys) zero x a h e = subst P (sym e) a.0
all_index P (y ∷ ys) (suc i) x a h e = all_index P ys i x a.1 (omega arith) e

-- ---- the order of what is found

-- lists of one length keep their order when they go on
less_extended : (p q x y : List ℕ) → length p ≡ length q → slice_cmp nat_cmp p q ≡ Less → slice_cmp nat_cmp (p ++ x) (q ++ y) ≡ Less
less_extended [] [] x y e h = cc
less_extended [] (k ∷ q) x y e h = absurd (omega arith)
less_extended (j ∷ p) [] x y e h = absurd (omega arith)
less_extended (j ∷ p) (k ∷ q) x y e h = go (nat_cmp j k) h (λ i. less_extended p q x y (omega arith) i)
  where
    go : (o : Ordering) → ordering_then o (slice_cmp nat_cmp p q) ≡ Less → (slice_cmp nat_cmp p q ≡ Less → slice_cmp nat_cmp (p ++ x) (q ++ y) ≡ Less)
        → ordering_then o (slice_cmp nat_cmp (p ++ x) (q ++ y)) ≡ Less
    go Less i later = refl
    go Equal i later = later i
    go Greater i later = cc

less_keys : (p : List ℕ) (j k : ℕ) → j < k → slice_cmp nat_cmp (p ++ j ∷ []) (p ++ k ∷ []) ≡ Less
less_keys [] j k h = ap (λ b. ordering_then (cond b Less (cond (j == k) Equal Greater)) Equal) (lt-ltb j k h)
less_keys (x ∷ p) j k h = ap (λ o. ordering_then o (slice_cmp nat_cmp (p ++ j ∷ []) (p ++ k ∷ []))) (tied_itself nat_cmp_total x) ∙ less_keys p j k h

first_shorter : (s t : List ℕ) → length s < length t → comes_first s t ≡ true
first_shorter s t h = or_left (nat_lt (length s) (length t)) (length s == length t && comes_before s t) (lt-ltb (length s) (length t) h)

first_before : (s t : List ℕ) → length s ≡ length t → slice_cmp nat_cmp s t ≡ Less → comes_first s t ≡ true
first_before s t e h =
    or_right (nat_lt (length s) (length t)) (length s == length t && comes_before s t) (and_from (length s == length t) (comes_before s t) (eq-eqb (length s) (length t) e) (ap is_lt h))

-- what does not come sooner comes later, or has the same keys
pub in_order : (table : List Definition) (p q : List ℕ) (k j : ℕ) → is_node table p ≡ true → is_node table q ≡ true → comes_sooner (found_at table q j) (found_at table p k) ≡ false
    → (p ++ k ∷ [] ≡ q ++ j ∷ []) ⊎ (comes_first (p ++ k ∷ []) (q ++ j ∷ []) ≡ true)
in_order table p q k j hp hq n = by (length q == length p) refl n
  where
    a : length (p ++ k ∷ []) ≡ length p + 1
    a = length-append p (k ∷ [])

    b : length (q ++ j ∷ []) ≡ length q + 1
    b = length-append q (j ∷ [])

    keys : length q ≡ length p → p ≡ q → nat_lt j k ≡ false → (p ++ k ∷ [] ≡ q ++ j ∷ []) ⊎ (comes_first (p ++ k ∷ []) (q ++ j ∷ []) ≡ true)
    keys e is m = elim (cases_lt k j) [
      | inl l ↦ inr (first_before (p ++ k ∷ []) (q ++ j ∷ []) (let l1 = a in let l2 = b in omega arith) (ap (λ r. slice_cmp nat_cmp (p ++ k ∷ []) (r ++ j ∷ [])) (sym is) ∙ less_keys p k j l))
      | inr l ↦ inl (let m1 = ltb-false j k m in let ks : k ≡ j = omega arith in ap₂ (λ r i. r ++ i ∷ []) is ks)
    ]

    nodes_of : length q ≡ length p → (o : Ordering) → slice_cmp nat_cmp p q ≡ o → (c : Bool) → number_of table q == number_of table p ≡ c
        → cond c (nat_lt j k) (nat_lt (number_of table q) (number_of table p)) ≡ false
        → (p ++ k ∷ [] ≡ q ++ j ∷ []) ⊎ (comes_first (p ++ k ∷ []) (q ++ j ∷ []) ≡ true)
    nodes_of e Less eo c ec m = inr (first_before (p ++ k ∷ []) (q ++ j ∷ []) (let l1 = a in let l2 = b in omega arith) (less_extended p q (k ∷ []) (j ∷ []) (sym e) eo))
    nodes_of e Equal eo true ec m = keys e (exact_bytes p q eo) m
    nodes_of e Equal eo false ec m = absurd (let clash : true ≡ false = sym (eq-eqb (number_of table q) (number_of table p) (ap (number_of table) (sym (exact_bytes p q eo)))) ∙ ec in cc)
    nodes_of e Greater eo c ec m = absurd (
        let back : slice_cmp nat_cmp q p ≡ Less = nat_list_cmp_total.antisymm q p ∙ ap ordering_reverse eo in
        let less = numbers_rise table q p hq hp back in
        let other : number_of table q == number_of table p ≡ false = ne_eqb (number_of table q) (number_of table p) (λ x. omega arith) in
        let at : nat_lt (number_of table q) (number_of table p) ≡ false = ap (λ d. cond d (nat_lt j k) (nat_lt (number_of table q) (number_of table p))) (sym (sym ec ∙ other)) ∙ m in
        let clash : true ≡ false = sym (lt-ltb (number_of table q) (number_of table p) less) ∙ at in cc)

    by : (c : Bool) → length q == length p ≡ c
        → cond c (cond (number_of table q == number_of table p) (nat_lt j k) (nat_lt (number_of table q) (number_of table p))) (nat_lt (length q) (length p)) ≡ false
        → (p ++ k ∷ [] ≡ q ++ j ∷ []) ⊎ (comes_first (p ++ k ∷ []) (q ++ j ∷ []) ≡ true)
    by true e m = nodes_of (eqb-true (length q) (length p) e) (slice_cmp nat_cmp p q) refl (number_of table q == number_of table p) refl m
    by false e m = inr (first_shorter (p ++ k ∷ []) (q ++ j ∷ []) (
        let l = ltb-false (length q) (length p) m in
        let other = eqb-false (length q) (length p) e in
        elim (cases_lt (length p) (length q)) [ inl h ↦ (let l1 = a in let l2 = b in omega arith) | inr h ↦ absurd (other (omega arith)) ]))

-- ---- what is found are the candidates

module _ (names : KeysymNames) (fresh : List ℕ) (old new : List Definition) (t_old : is_table old ≡ true) (t_new : is_table new ≡ true) (are : AreFresh fresh old) where
  -- an old node up to which the tables agree, and a candidate there
  pub record IsFound (f : Found) : Type 0 where
    pub before : List ℕ
    pub key : ℕ
    pub is : f ≡ found_at old before key
    pub candidate : Candidate names fresh old new before key
    pub agree : agrees names old new before ≡ true

  clear_of : (p : List ℕ) → is_node old p ≡ true → agrees names old new p ≡ true → Clear names fresh old new p
  clear_of p h a = record { reached = node_reached old p t_old h; along = along_of names old new [] [] p a }

  found_of_node : (p : List ℕ) → is_node old p ≡ true → AllByRecursion IsFound (found_behind names old new p)
  found_of_node p h = go (agrees names old new p) refl
    where
      go : (b : Bool) → agrees names old new p ≡ b → AllByRecursion IsFound (map (found_at old p) (cond b (filter (differs_at names old new p) (edges old p)) []))
      go true a = all_filtered IsFound (found_at old p) (differs_at names old new p) (edges old p) (λ k m d. record {
        before = p;
        key = k;
        is = refl;
        agree = a;
        candidate = record { clear = clear_of p h a; key = inl (listed_edge old p k m); differs = d };
      })
      go false a = tt

  found_starts : AllByRecursion IsFound (map (found_at old []) (differing_starts names fresh old new))
  found_starts = all_filtered IsFound (found_at old []) (is_differing_start names fresh old new) (edges new []) (λ k m d.
      (let outer = and_parts (not (has_edge old [] k)) (not (has_key fresh k) && differs_at names old new [] k) d in
      let inner = and_parts (not (has_key fresh k)) (differs_at names old new [] k) outer.1 in
      record {
        before = [];
        key = k;
        is = refl;
        agree = refl;
        candidate = record {
          clear = clear_of [] (root_is_node old) refl;
          key = inr (refl, not-true (has_edge old [] k) outer.0, listed_edge new [] k m, not-true (has_key fresh k) inner.0);
          differs = inner.1;
        };
      }))

  -- all that the pass finds are candidates at nodes up to which the tables agree
  pub all_are_found : AllByRecursion IsFound (all_found names fresh old new (nodes old))
  all_are_found =
      all_append IsFound (map (found_at old []) (differing_starts names fresh old new)) (flat_map (found_behind names old new) (nodes old)) found_starts
      (all_flat IsFound (found_behind names old new) (nodes old) found_of_node)

  -- each candidate is among what the pass finds
  pub has_candidate : (p : List ℕ) (k : ℕ) → Candidate names fresh old new p k → Has (found_at old p k) (all_found names fresh old new (nodes old))
  has_candidate p k c = by c.key
    where
      by : (has_edge old p k ≡ true) ⊎ ((p ≡ []) × (has_edge old [] k ≡ false) × (has_edge new [] k ≡ true) × (has_key fresh k ≡ false))
          → Has (found_at old p k) (all_found names fresh old new (nodes old))
      by (inl e) =
          has_right (found_at old p k) (map (found_at old []) (differing_starts names fresh old new)) (flat_map (found_behind names old new) (nodes old))
          (has_flat (found_behind names old new) (found_at old p k) p (nodes old) c.clear.reached.node
          (subst (λ (b : Bool). Has (found_at old p k) (map (found_at old p) (cond b (filter (differs_at names old new p) (edges old p)) []))) (sym (agrees_of names old new [] [] p c.clear.along))
          (has_filtered (found_at old p) (differs_at names old new p) k (edges old p) (edge_listed old p k e) c.differs)))
      by (inr s) =
          has_left (found_at old p k) (map (found_at old []) (differing_starts names fresh old new)) (flat_map (found_behind names old new) (nodes old))
          (subst (λ (q : List ℕ). Has (found_at old q k) (map (found_at old []) (differing_starts names fresh old new))) (sym s.0)
          (has_filtered (found_at old []) (is_differing_start names fresh old new) k (edges new []) (edge_listed new [] k s.2)
          (and_from (not (has_edge old [] k)) (not (has_key fresh k) && differs_at names old new [] k) (not_from_false (has_edge old [] k) s.1)
          (and_from (not (has_key fresh k)) (differs_at names old new [] k) (not_from_false (has_key fresh k) s.3) (ap (λ q. differs_at names old new q k) (sym s.0) ∙ c.differs)))))

  -- ---- one that was found

  -- what was found is a place: an old node up to which the tables agree, and a key there, not
  -- ignored, at which they differ
  pub place_of : (f : Found) → IsFound f → IsPlace names old new f
  place_of f h = record {
    in_range = (let e : f.node ≡ number_of old h.before = ap (λ (g : Found). g.node) h.is in let l = number_below old h.before h.candidate.clear.reached.node in omega arith);
    agree = ap (agrees names old new) (at_node f h) ∙ h.agree;
    differ = ap₂ (differs_at names old new) (at_node f h) (ap (λ (g : Found). g.keysym) h.is) ∙ h.candidate.differs;
    fed = ap is_ignored (ap (λ (g : Found). g.keysym) h.is) ∙ candidate_fed names fresh old new t_old t_new are h.before h.key h.candidate;
  }
    where
      at_node : (f : Found) (h : IsFound f) → node old f.node ≡ h.before
      at_node f h = ap (node old) (ap (λ (g : Found). g.node) h.is) ∙ node_at_number old h.before h.candidate.clear.reached.node

  some_of : (o : Option Kind) → is_some o ≡ true → (kind : Kind) × (o ≡ Some kind)
  some_of None h = cc
  some_of (Some kind) h = (kind, refl)

  -- the evidence of one that was found is that of its candidate
  pub evidence_of : (f : Found) (h : IsFound f) (x : Evidence)
      → ((kind : Kind) → difference_at names old new (node old f.node) f.keysym ≡ Some kind → x ≡ evidence names old new (node old f.node) f.keysym kind)
      → (kind : Kind) × (difference_at names old new h.before h.key ≡ Some kind) × (x ≡ evidence names old new h.before h.key kind)
  evidence_of f h x e =
      let at : node old f.node ≡ h.before = ap (node old) (ap (λ (g : Found). g.node) h.is) ∙ node_at_number old h.before h.candidate.clear.reached.node in
      let key : f.keysym ≡ h.key = ap (λ (g : Found). g.keysym) h.is in
      let kind = some_of (difference_at names old new h.before h.key) h.candidate.differs in
      (kind.0, kind.1, e kind.0 (ap₂ (difference_at names old new) at key ∙ kind.1) ∙ ap₂ (λ p k. evidence names old new p k kind.0) at key)

  -- the evidence of the first one is the least
  pub first_is_least : (b : ℕ) (f : Found) → IsFirstBest comes_sooner (all_found names fresh old new (nodes old)) (length (all_found names fresh old new (nodes old))) b
      → f ≡ get_or (all_found names fresh old new (nodes old)) b f
      → (h : IsFound f) (x : Evidence) → ((kind : Kind) → difference_at names old new (node old f.node) f.keysym ≡ Some kind → x ≡ evidence names old new (node old f.node) f.keysym kind)
      → (Follows names fresh old new → ⊥) × IsLeast names fresh old new x
  first_is_least b f best at h x e =
      let reported = evidence_of f h x e in
      let shown : Shows names fresh old new x =
      subst (λ (y : Evidence). Shows names fresh old new y) (sym reported.2) (candidate_shows names fresh old new t_old t_new are h.before h.key reported.0 h.candidate reported.1) in
      (refutes names fresh old new x.keys x.kind x.old_text x.new_text shown, least_from names fresh old new x shown (λ q j c. first reported.2 q j c))
    where
      first : {kind : Kind} → x ≡ evidence names old new h.before h.key kind → (q : List ℕ) (j : ℕ) → Candidate names fresh old new q j
          → (x.keys ≡ q ++ j ∷ []) ⊎ (comes_first x.keys (q ++ j ∷ []) ≡ true)
      first is q j c =
          let i = has_index (found_at old q j) (all_found names fresh old new (nodes old)) (has_candidate q j c) in
          let later : comes_sooner (found_at old q j) (found_at old h.before h.key) ≡ false =
          ap₂ comes_sooner (sym (i.2 f)) (sym h.is ∙ at) ∙ best.1 i.0 f i.1 in
          let keys : x.keys ≡ h.before ++ h.key ∷ [] = ap (λ (y : Evidence). y.keys) is in
          elim (in_order old h.before q h.key j h.candidate.clear.reached.node c.clear.reached.node later) [
            | inl same_keys ↦ inl (keys ∙ same_keys)
            | inr before ↦ inr (ap (λ s. comes_first s (q ++ j ∷ [])) keys ∙ before)
          ]

  -- ---- if nothing is found

  follows_if_none : all_found names fresh old new (nodes old) ≡ [] → Follows names fresh old new
  follows_if_none e = follows_without names fresh old new (λ q j c. subst (λ (xs : List Found). Has (found_at old q j) xs) e (has_candidate q j c))

  partners_paired : (f : Follows names fresh old new) (n : ℕ) (xs : List (List ℕ)) → ((i : ℕ) → i < length xs → number_of old (get_or xs i []) ≡ n + i)
      → ((p : List ℕ) → list_any (same p) xs ≡ true → agrees names old new p ≡ true)
      → partner_pairs n (map (stand names old new) xs) ≡ map (λ p. (number_of old p, number_of new (pending new p))) xs
  partners_paired f n [] at all = refl
  partners_paired f n (x ∷ xs) at all =
      let number : n ≡ number_of old x = sym (at zero (omega arith) ∙ omega arith) in
      let later = partners_paired f (n + 1) xs (λ i l. at (suc i) (omega arith) ∙ omega arith) (λ p m. all p (or_right (same p x) (list_any (same p) xs) m)) in
      go (agrees names old new x) (all x (or_left (same x x) (list_any (same x) xs) (same_from x x refl))) number later
    where
      go : (b : Bool) → b ≡ true → n ≡ number_of old x → partner_pairs (n + 1) (map (stand names old new) xs) ≡ map (λ p. (number_of old p, number_of new (pending new p))) xs
          → partner_pairs n
          (cond b (Some (record { new_node = record { 0 = number_of new (pending new x) }; parent = record { 0 = number_of old (without_last x) }; keysym = last_key x })) None
          ∷ map (stand names old new) xs)
          ≡ (number_of old x, number_of new (pending new x)) ∷ map (λ p. (number_of old p, number_of new (pending new p))) xs
      go true e number later = ap₂ (λ m ps. (m, number_of new (pending new x)) ∷ ps) number later
      go false e number later = cc

  -- if nothing is found, the new table follows, and the pairs simulate
  pub none_is_follower : all_found names fresh old new (nodes old) ≡ [] → (pairs : List (ℕ × ℕ)) → pairs ≡ partner_pairs 0 (map (stand names old new) (nodes old)) → IsFollower names fresh old new pairs
  none_is_follower e pairs is =
      let f = follows_if_none e in
      let walked : pairs ≡ walked_pairs old new =
      is ∙ partners_paired f 0 (nodes old) (λ i l. number_at_node old i l ∙ omega arith)
      (λ p m. agrees_of names old new [] [] p (f p (node_avoids fresh old p are m) (node_reached old p t_old m).goes_on)) in
      record {
        follows = f;
        pairs_are = walked;
        simulates = subst (λ (ps : List (ℕ × ℕ)). Simulates names fresh old new ps) (sym walked) (walked_simulate names fresh old new t_old t_new are f (walked_rise old new));
      }

  -- the one that is chosen of what the pass found
  pub chosen_found : (found ys : List Found) → found ≡ all_found names fresh old new (nodes old) → ys ≡ found → (b : ℕ) → IsFirstBest comes_sooner ys (length ys) b → (f : Found) → f ≡ get_or found b f
      → IsFound f
  chosen_found found ys e y b best f at =
      let below : b < length (all_found names fresh old new (nodes old)) =
      (let l = best.0 in let n : length ys ≡ length (all_found names fresh old new (nodes old)) = ap length (y ∙ e) in omega arith) in
      all_index IsFound (all_found names fresh old new (nodes old)) b f all_are_found below (at ∙ ap (λ xs. get_or xs b f) e)
