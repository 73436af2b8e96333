-- The differences of two tables are their candidates. Which counterexample is least, and that a
-- table follows if there is none.
use Rattle.std.proofs.Common.{◌≡◌, ◌≢◌, ◌⊎◌, ℕ, ◌+◌, ◌<◌, List, [], ◌∷◌, ◌++◌, Bool, true, false, not, ◌&&◌, length, refl, sym, ◌∙◌, ap, subst, inl, inr, arith, append-nil, append_assoc, length-append, lt-ltb, eqb-true}
use Rattle.std.specs.Prelude.{Option, Some, None, ◌==◌, nat_lt}
use Rattle.std.specs.List.{list_all}
use Rattle.std.proofs.lemmas.Bool.{and_parts, and_from, or_cases, or_left, not-true, not_from_false, ltb-true}
use Rattle.std.proofs.lemmas.List.Folds.{list_all-append}
use Rattle.keysym_core.specs.Keysym.{is_keysym, is_ignored}
use Rattle.keysym_core.specs.Names.{KeysymNames}
use Rattle.compose_model.specs.Table.{Definition, same, has_key, avoids, is_proper_prefix, is_extended, is_table, is_definition, comes_before}
use Rattle.compose_model.specs.Step.{Effect, ignores, extends, completes, passes, cancels, effect, is_empty, is_cancel, step, pending_by, pending_after, pending, uncancelled_from, uncancelled}
use Rattle.compose_model.specs.Follows.{Agrees, AgreeAlong, Follows, Kind, difference}
use Rattle.compose_model.specs.Nodes.{is_node, has_edge}
use Rattle.compose_model.specs.Certificate.{AreFresh}
use Rattle.compose_model.proofs.Tests.{both_at, list_any-weaker}
use Rattle.compose_model.proofs.Steps.{effect_tests, ignored_key, no_cancel_test, pending_from-append, uncancelled_head, uncancelled_rest}
use Rattle.compose_model.proofs.NodeLemmas.{same_is, node_means, extended_is_node}
use Rattle.compose_model.proofs.Definitions.{sequence_fed}
use Rattle.compose_model.proofs.Reached.{IsReached, root_reached, reached_more, node_reached, shorter_prefix, uncancelled_from-append}
use Rattle.compose_model.proofs.Avoids.{avoids_both, node_avoids, edge_not_fresh}
use Rattle.compose_model.proofs.Exact.{edge_fed, edge_goes_on}
use Rattle.compose_walk.specs.Evidence.{Evidence, Shows, IsLeast, IsDifference, comes_first}
use Rattle.compose_walk.specs.Pass.{difference_at, evidence}
use Rattle.compose_walk.proofs.Reduction.{agreement, Clear, root_clear, clear_more, Candidate, candidate_at, reduced}

-- ---- the keys of a node

prefix_fed : (p s : List ℕ) → is_proper_prefix p s ≡ true → list_all (λ j. is_keysym j && not (is_ignored j)) s ≡ true → list_all (λ j. not (is_ignored j)) p ≡ true
prefix_fed p [] h a = cc
prefix_fed [] (x ∷ s) h a = refl
prefix_fed (j ∷ p) (x ∷ s) h a =
    let is = and_parts (j == x) (is_proper_prefix p s) h in
    let fed = and_parts (is_keysym x && not (is_ignored x)) (list_all (λ i. is_keysym i && not (is_ignored i)) s) a in
    and_from (not (is_ignored j)) (list_all (λ i. not (is_ignored i)) p)
    (ap (λ y. not (is_ignored y)) (eqb-true j x is.0) ∙ (and_parts (is_keysym x) (not (is_ignored x)) fed.0).1) (prefix_fed p s is.1 fed.1)

-- no key of a node is ignored
pub node_fed : (table : List Definition) (p : List ℕ) → is_table table ≡ true → is_node table p ≡ true → list_all (λ j. not (is_ignored j)) p ≡ true
node_fed table p t h = elim (or_cases (same p []) (is_extended table p) (sym (node_means table p) ∙ h)) [
  | inl e ↦ ap (list_all (λ j. not (is_ignored j))) (same_is p [] e)
  | inr e ↦ (let d = both_at is_definition (λ (d : Definition). is_proper_prefix p d.sequence) table t e in prefix_fed p d.0.sequence d.2 (sequence_fed d.0 d.1))
]

-- a prefix of a node is a node
pub shorter_node : (table : List Definition) (v w : List ℕ) → is_node table (v ++ w) ≡ true → is_node table v ≡ true
shorter_node table v w h = elim (or_cases (same (v ++ w) []) (is_extended table (v ++ w)) (sym (node_means table (v ++ w)) ∙ h)) [
  | inl e ↦ node_means table v ∙ or_left (same v []) (is_extended table v) (prefix_empty v (same_is (v ++ w) [] e))
  | inr e ↦ extended_is_node table v (list_any-weaker (λ (d : Definition). is_proper_prefix (v ++ w) d.sequence) (λ d. is_proper_prefix v d.sequence) (λ d. shorter_prefix v w d.sequence) table e)
]
  where
    prefix_empty : (v : List ℕ) → v ++ w ≡ [] → same v [] ≡ true
    prefix_empty [] e = refl
    prefix_empty (x ∷ v) e = cc

-- a proper prefix of p and k is a prefix of p
prefix_of : (v w p : List ℕ) (k : ℕ) → p ++ k ∷ [] ≡ v ++ w → w ≢ [] → (rest : List ℕ) × (p ≡ v ++ rest)
prefix_of [] w p k e n = (p, refl)
prefix_of (x ∷ v) w [] k e n = absurd (n (tail_empty v (let t : [] ≡ v ++ w = cc in sym t)))
  where
    tail_empty : (v : List ℕ) → v ++ w ≡ [] → w ≡ []
    tail_empty [] e = e
    tail_empty (y ∷ v) e = cc
prefix_of (x ∷ v) w (y ∷ p) k e n =
    let t : p ++ k ∷ [] ≡ v ++ w = cc in
    let r = prefix_of v w p k t n in
    (r.0, let first : y ≡ x = cc in ap (λ z. z ∷ p) first ∙ ap (λ z. x ∷ z) r.1)

last_of : (P : ℕ → Bool) (v : List ℕ) (k : ℕ) → list_all P (v ++ k ∷ []) ≡ true → P k ≡ true
last_of P v k h = (and_parts (P k) true (and_parts (list_all P v) (list_all P (k ∷ [])) (sym (list_all-append P v (k ∷ [])) ∙ h)).1).0

module _ (names : KeysymNames) (fresh : List ℕ) (old new : List Definition) where
  -- ---- a counterexample has a candidate that is it, or that is shorter

  pub counterexample_reduces : (y : Evidence) → Shows names fresh old new y
      → (r : List ℕ) × (k : ℕ) × Candidate names fresh old new r k × ((r ++ k ∷ [] ≡ y.keys) ⊎ (length (r ++ k ∷ []) < length y.keys))
  counterexample_reduces y s =
      let u : uncancelled old (s.earlier ++ s.last ∷ []) ≡ true = ap (uncancelled old) (sym s.keys_are) ∙ s.old_goes_on in
      let f : not (has_key fresh s.last) ≡ true = last_of (λ j. not (has_key fresh j)) s.earlier s.last (ap (avoids fresh) (sym s.keys_are) ∙ s.none_fresh) in
      let r = reduced names fresh old new [] s.earlier s.last y.kind (root_clear names fresh old new) (not-true (has_key fresh s.last) f) u s.agree s.differ in
      (r.0, s.last, r.1, found r.0 r.2)
    where
      found : (r : List ℕ) → (r ≡ s.earlier) ⊎ (length r < 0 + length s.earlier) → (r ++ s.last ∷ [] ≡ y.keys) ⊎ (length (r ++ s.last ∷ []) < length y.keys)
      found r (inl e) = inl (ap (λ z. z ++ s.last ∷ []) e ∙ sym s.keys_are)
      found r (inr h) = inr (
          let a : length (r ++ s.last ∷ []) ≡ length r + 1 = length-append r (s.last ∷ []) in
          let b : length y.keys ≡ length s.earlier + 1 = ap length s.keys_are ∙ length-append s.earlier (s.last ∷ []) in
          omega arith)

  -- what comes before each candidate comes before each counterexample
  pub least_from : (x : Evidence) → Shows names fresh old new x
      → ((q : List ℕ) (k : ℕ) → Candidate names fresh old new q k → (x.keys ≡ q ++ k ∷ []) ⊎ (comes_first x.keys (q ++ k ∷ []) ≡ true)) → IsLeast names fresh old new x
  least_from x s first = record { shows = s; least = λ y sy. (let r = counterexample_reduces y sy in go y r.0 r.1 r.3 (first r.0 r.1 r.2)) }
    where
      shorter : (y : Evidence) → length x.keys < length y.keys → comes_first x.keys y.keys ≡ true
      shorter y h = or_left (nat_lt (length x.keys) (length y.keys)) (length x.keys == length y.keys && comes_before x.keys y.keys) (lt-ltb (length x.keys) (length y.keys) h)

      no_longer : (s t : List ℕ) → comes_first s t ≡ true → length s < length t + 1
      no_longer s t h = elim (or_cases (nat_lt (length s) (length t)) (length s == length t && comes_before s t) h) [
        | inl e ↦ (let l = ltb-true (length s) (length t) e in omega arith)
        | inr e ↦ (let l = eqb-true (length s) (length t) (and_parts (length s == length t) (comes_before s t) e).0 in omega arith)
      ]

      go : (y : Evidence) (q : List ℕ) (k : ℕ) → (q ++ k ∷ [] ≡ y.keys) ⊎ (length (q ++ k ∷ []) < length y.keys) → (x.keys ≡ q ++ k ∷ []) ⊎ (comes_first x.keys (q ++ k ∷ []) ≡ true)
          → (x.keys ≡ y.keys) ⊎ (comes_first x.keys y.keys ≡ true)
      go y q k (inl e) (inl a) = inl (a ∙ e)
      go y q k (inl e) (inr b) = inr (ap (comes_first x.keys) (sym e) ∙ b)
      go y q k (inr h) (inl a) = inr (shorter y (let n : length x.keys ≡ length (q ++ k ∷ []) = ap length a in omega arith))
      go y q k (inr h) (inr b) = inr (shorter y (let n = no_longer x.keys (q ++ k ∷ []) b in omega arith))

  -- ---- without a candidate the new table follows

  agrees_on : ((q : List ℕ) (k : ℕ) → Candidate names fresh old new q k → ⊥) → (p w : List ℕ) → Clear names fresh old new p → avoids fresh w ≡ true → uncancelled_from old p w ≡ true
      → AgreeAlong names old new p (pending new p) w
  agrees_on none p [] c f u = tt
  agrees_on none p (j ∷ w) c f u =
      (here, go (λ q cq uq. agrees_on none q w cq (and_parts (not (has_key fresh j)) (avoids fresh w) f).1 uq) (effect old p j) refl)
    where
      here : Agrees (step names old p j) (step names new (pending new p) j)
      here = by (difference (step names old p j) (step names new (pending new p) j)) refl
        where
          by : (o : Option Kind) → difference (step names old p j) (step names new (pending new p) j) ≡ o → Agrees (step names old p j) (step names new (pending new p) j)
          by None e = agreement (step names old p j) (step names new (pending new p) j) e
          by (Some kind) e =
              absurd (none p j (candidate_at names fresh old new p j kind c (not-true (has_key fresh j) (and_parts (not (has_key fresh j)) (avoids fresh w) f).0) (uncancelled_head old p j w u) e))

      from : ((q : List ℕ) → Clear names fresh old new q → uncancelled_from old q w ≡ true → AgreeAlong names old new q (pending new q) w)
          → (q : List ℕ) → pending_after old p j ≡ q → pending_after new (pending new p) j ≡ pending new q → Clear names fresh old new q
          → AgreeAlong names old new (pending_after old p j) (pending_after new (pending new p) j) w
      from again q eo en cq =
          subst (λ (y : List ℕ). AgreeAlong names old new y (pending_after new (pending new p) j) w) (sym eo)
          (subst (λ (y : List ℕ). AgreeAlong names old new q y w) (sym en) (again q cq (subst (λ (y : List ℕ). uncancelled_from old y w ≡ true) eo (uncancelled_rest old p j w u))))

      go : ((q : List ℕ) → Clear names fresh old new q → uncancelled_from old q w ≡ true → AgreeAlong names old new q (pending new q) w)
          → (x : Effect) → effect old p j ≡ x → AgreeAlong names old new (pending_after old p j) (pending_after new (pending new p) j) w
      go again ignores e = from again p (ap (λ x. pending_by x p j) e) (ap (λ x. pending_by x (pending new p) j) (ignored_key new (pending new p) j (effect_tests old p j ignores e))) c
      go again extends e = from again (p ++ j ∷ []) (ap (λ x. pending_by x p j) e) (sym (pending_from-append new [] p (j ∷ []))) (clear_more names fresh old new p j c e here)
      go again completes e = (let r = ap (λ x. pending_by x p j) e in from again [] r (here.nothing_pending r) (root_clear names fresh old new))
      go again passes e = (let r = ap (λ x. pending_by x p j) e in from again [] r (here.nothing_pending r) (root_clear names fresh old new))
      go again cancels e = absurd (uncancelled_head old p j w u e)

  -- if the tables have no candidate, the new table follows the old one
  pub follows_without : ((q : List ℕ) (k : ℕ) → Candidate names fresh old new q k → ⊥) → Follows names fresh old new
  follows_without none w f u = agrees_on none [] w (root_clear names fresh old new) f u

  -- ---- the differences are the candidates

  module _ (t_old : is_table old ≡ true) (t_new : is_table new ≡ true) (are : AreFresh fresh old) where
    candidate_new : (p : List ℕ) (k : ℕ) → Candidate names fresh old new p k → has_key fresh k ≡ false
    candidate_new p k c = by c.key
      where
        by : (has_edge old p k ≡ true) ⊎ ((p ≡ []) × (has_edge old [] k ≡ false) × (has_edge new [] k ≡ true) × (has_key fresh k ≡ false)) → has_key fresh k ≡ false
        by (inl e) = edge_not_fresh fresh old p k are e
        by (inr s) = s.3

    -- the last key of a candidate is not ignored
    pub candidate_fed : (p : List ℕ) (k : ℕ) → Candidate names fresh old new p k → is_ignored k ≡ false
    candidate_fed p k c = by c.key
      where
        by : (has_edge old p k ≡ true) ⊎ ((p ≡ []) × (has_edge old [] k ≡ false) × (has_edge new [] k ≡ true) × (has_key fresh k ≡ false)) → is_ignored k ≡ false
        by (inl e) = edge_fed old p k t_old e
        by (inr s) = edge_fed new [] k t_new s.2

    candidate_goes_on : (p : List ℕ) (k : ℕ) → Candidate names fresh old new p k → effect old p k ≢ cancels
    candidate_goes_on p k c e = by c.key
      where
        by : (has_edge old p k ≡ true) ⊎ ((p ≡ []) × (has_edge old [] k ≡ false) × (has_edge new [] k ≡ true) × (has_key fresh k ≡ false)) → ⊥
        by (inl h) = edge_goes_on old p k t_old h e
        by (inr s) = let reported = (effect_tests old p k cancels e).3 in let clash : true ≡ false = sym (ap is_empty s.0) ∙ reported in cc

    -- a candidate is a counterexample
    pub candidate_shows : (p : List ℕ) (k : ℕ) (kind : Kind) → Candidate names fresh old new p k → difference_at names old new p k ≡ Some kind
        → Shows names fresh old new (evidence names old new p k kind)
    candidate_shows p k kind c d =
        let r = c.clear.reached in
        let at : pending old p ≡ p = r.again in
        record {
          earlier = p;
          last = k;
          keys_are = refl;
          none_fresh = avoids_both fresh p (k ∷ []) (node_avoids fresh old p are r.node) (and_from (not (has_key fresh k)) true (not_from_false (has_key fresh k) (candidate_new p k c)) refl);
          old_goes_on =
              uncancelled_from-append old [] p (k ∷ []) ∙ and_from (uncancelled old p) (uncancelled_from old (pending old p) (k ∷ [])) r.goes_on
              (ap (λ y. uncancelled_from old y (k ∷ [])) at ∙ and_from (not (is_cancel (effect old p k))) true (no_cancel_test (effect old p k) (candidate_goes_on p k c)) refl);
          agree = c.clear.along;
          differ = ap (λ y. difference (step names old y k) (step names new (pending new p) k)) at ∙ d;
          old_commits = ap (λ y. (step names old y k).text) at;
          new_commits = refl;
        }

    -- without detours
    pub candidate_is : (p : List ℕ) (k : ℕ) (kind : Kind) → Candidate names fresh old new p k → difference_at names old new p k ≡ Some kind
        → IsDifference names fresh old new (evidence names old new p k kind)
    candidate_is p k kind c d = record {
      shows = candidate_shows p k kind c d;
      none_ignored =
          list_all-append (λ j. not (is_ignored j)) p (k ∷ [])
          ∙ and_from (list_all (λ j. not (is_ignored j)) p) (list_all (λ j. not (is_ignored j)) (k ∷ [])) (node_fed old p t_old c.clear.reached.node)
          (and_from (not (is_ignored k)) true (not_from_false (is_ignored k) (candidate_fed p k c)) refl);
      never_at_rest = λ v w e nv nw nothing_pending.
          (let r = prefix_of v w p k e nw in
          let v_node = shorter_node old v r.0 (ap (is_node old) (sym r.1) ∙ c.clear.reached.node) in
          nv (sym (node_reached old v t_old v_node).again ∙ nothing_pending));
    }

  -- and each difference is one
  reached_on : (x : Evidence) → IsDifference names fresh old new x → (v w : List ℕ) (k : ℕ) → x.keys ≡ v ++ w ++ k ∷ [] → IsReached old v → uncancelled_from old v (w ++ k ∷ []) ≡ true
      → IsReached old (v ++ w)
  reached_on x d v [] k e r u = subst (λ (y : List ℕ). IsReached old y) (sym (append-nil v)) r
  reached_on x d v (j ∷ w) k e r u = go (λ rr uu. reached_on x d (v ++ j ∷ []) w k (e ∙ ap (λ y. y ++ k ∷ []) (sym (append_assoc v (j ∷ []) w))) rr uu) (effect old v j) refl
    where
      rest : (y : Effect) → effect old v j ≡ y → pending_by y v j ≡ [] → ⊥
      rest y h p =
          let split : x.keys ≡ (v ++ j ∷ []) ++ (w ++ k ∷ []) = e ∙ append_assoc v (j ∷ w) (k ∷ []) ∙ sym (append_assoc v (j ∷ []) (w ++ k ∷ [])) in
          d.never_at_rest (v ++ j ∷ []) (w ++ k ∷ []) split (λ n. nonempty v n) (λ n. nonempty_k w n)
          (pending_from-append old [] v (j ∷ []) ∙ ap (λ z. pending_after old z j) r.again ∙ ap (λ z. pending_by z v j) h ∙ p)
        where
          nonempty : (v : List ℕ) → v ++ j ∷ [] ≡ [] → ⊥
          nonempty [] n = cc
          nonempty (z ∷ v) n = cc

          nonempty_k : (w : List ℕ) → w ++ k ∷ [] ≡ [] → ⊥
          nonempty_k [] n = cc
          nonempty_k (z ∷ w) n = cc

      go : (IsReached old (v ++ j ∷ []) → uncancelled_from old (v ++ j ∷ []) (w ++ k ∷ []) ≡ true → IsReached old ((v ++ j ∷ []) ++ w)) → (y : Effect) → effect old v j ≡ y → IsReached old (v ++ j ∷ w)
      go again ignores h = absurd (
          let reported = effect_tests old v j ignores h in
          let all : list_all (λ i. not (is_ignored i)) (v ++ ((j ∷ w) ++ k ∷ [])) ≡ true = ap (list_all (λ i. not (is_ignored i))) (sym (append_assoc v (j ∷ w) (k ∷ [])) ∙ sym e) ∙ d.none_ignored in
          let behind =
          and_parts (list_all (λ i. not (is_ignored i)) v) (list_all (λ i. not (is_ignored i)) ((j ∷ w) ++ k ∷ []))
          (sym (list_all-append (λ i. not (is_ignored i)) v ((j ∷ w) ++ k ∷ [])) ∙ all) in
          let head = not-true (is_ignored j) (and_parts (not (is_ignored j)) (list_all (λ i. not (is_ignored i)) (w ++ k ∷ [])) behind.1).0 in
          let clash : true ≡ false = sym reported ∙ head in cc)
      go again extends h =
          let uu : uncancelled_from old (v ++ j ∷ []) (w ++ k ∷ []) ≡ true =
          subst (λ (y : List ℕ). uncancelled_from old y (w ++ k ∷ []) ≡ true) (ap (λ z. pending_by z v j) h) (uncancelled_rest old v j (w ++ k ∷ []) u) in
          subst (λ (y : List ℕ). IsReached old y) (append_assoc v (j ∷ []) w) (again (reached_more old v j r h) uu)
      go again completes h = absurd (rest completes h refl)
      go again passes h = absurd (rest passes h refl)
      go again cancels h = absurd (uncancelled_head old v j (w ++ k ∷ []) u h)

  -- the keys of each difference are an old node and a key that are a candidate
  pub difference_is_candidate : (x : Evidence) → IsDifference names fresh old new x → (p : List ℕ) × (k : ℕ) × Candidate names fresh old new p k × (x.keys ≡ p ++ k ∷ [])
  difference_is_candidate x d =
      let s = d.shows in
      let u : uncancelled old (s.earlier ++ s.last ∷ []) ≡ true = ap (uncancelled old) (sym s.keys_are) ∙ s.old_goes_on in
      let r : IsReached old s.earlier = reached_on x d [] s.earlier s.last s.keys_are (root_reached old) u in
      let f : not (has_key fresh s.last) ≡ true = last_of (λ j. not (has_key fresh j)) s.earlier s.last (ap (avoids fresh) (sym s.keys_are) ∙ s.none_fresh) in
      let last_on : uncancelled_from old (pending old s.earlier) (s.last ∷ []) ≡ true =
      (and_parts (uncancelled old s.earlier) (uncancelled_from old (pending old s.earlier) (s.last ∷ [])) (sym (uncancelled_from-append old [] s.earlier (s.last ∷ [])) ∙ u)).1 in
      let n : effect old s.earlier s.last ≢ cancels = λ h. uncancelled_head old (pending old s.earlier) s.last [] last_on (ap (λ y. effect old y s.last) r.again ∙ h) in (
        s.earlier,
        s.last,
        candidate_at names fresh old new s.earlier s.last x.kind (record { reached = r; along = s.agree }) (not-true (has_key fresh s.last) f) n
            (ap (λ y. difference (step names old y s.last) (step names new (pending new s.earlier) s.last)) (sym r.again) ∙ s.differ),
        s.keys_are,
      )
