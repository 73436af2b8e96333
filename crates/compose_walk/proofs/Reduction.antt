-- For each counterexample there is a difference that is no longer: an old node at which the tables
-- agree so far, and a key at which they differ.
use Rattle.std.proofs.Common.{◌≡◌, ◌≢◌, ◌⊎◌, ℕ, ◌+◌, ◌<◌, List, [], ◌∷◌, ◌++◌, Bool, true, false, cond, not, ◌&&◌, length, refl, sym, ◌∙◌, ap, subst, inl, inr, arith, append-nil, append_assoc, length-append}
use Rattle.std.specs.Prelude.{Option, Some, None, is_some}
use Rattle.std.proofs.lemmas.Bool.{or_from, or_parts, or_left, or_right, not-true, not_from_false, not-false, cases_Bool}
use Rattle.keysym_core.specs.Keysym.{is_ignored}
use Rattle.keysym_core.specs.Names.{KeysymNames}
use Rattle.compose_model.specs.Table.{Definition, same, has_key, is_sequence, is_extended}
use Rattle.compose_model.specs.Step.{Effect, ignores, extends, completes, passes, cancels, effect, is_empty, is_cancel, Step, step, pending_by, text_by, pending_after, pending_from, pending, uncancelled_from}
use Rattle.compose_model.specs.Follows.{Agrees, AgreeAlong, Kind, cancelled, text_differs, waiting, difference}
use Rattle.compose_model.specs.Nodes.{has_edge}
use Rattle.compose_model.proofs.Steps.{effect_tests, effect_is, ignored_key, no_cancel, no_cancel_test, pending_from-append, uncancelled_head, uncancelled_rest}
use Rattle.compose_model.proofs.NodeLemmas.{same_is, same_from, edge_extends}
use Rattle.compose_model.proofs.Reached.{IsReached, root_reached, reached_more, agree_joined}

-- ---- agreement at one key

-- a list that tests as empty has no keysyms
pub empty_is : (u : List ℕ) → is_empty u ≡ true → u ≡ []
empty_is [] h = refl
empty_is (k ∷ u) h = cc

at_rest_by : (u v : List ℕ) → is_empty u && not (is_empty v) ≡ false → u ≡ [] → v ≡ []
at_rest_by [] v h e = empty_is v (not-false (is_empty v) h)
at_rest_by (k ∷ u) v h e = cc

-- if no condition fails, the steps agree
pub agreement : (a b : Step) → difference a b ≡ None → Agrees a b
agreement a b h = go (is_cancel b.effect) (same b.text a.text) (is_empty a.pending && not (is_empty b.pending)) refl refl refl h
  where
    go : (c s r : Bool) → is_cancel b.effect ≡ c → same b.text a.text ≡ s → is_empty a.pending && not (is_empty b.pending) ≡ r
        → cond c (Some cancelled) (cond (not s) (Some text_differs) (cond r (Some waiting) None)) ≡ None → Agrees a b
    go true s r hc hs hr e = cc
    go false false r hc hs hr e = cc
    go false true true hc hs hr e = cc
    go false true false hc hs hr e =
        record { not_cancelled = no_cancel b.effect (not_from_false (is_cancel b.effect) hc); same_text = same_is b.text a.text hs; nothing_pending = at_rest_by a.pending b.pending hr }

rest_test : (u v : List ℕ) → (u ≡ [] → v ≡ []) → is_empty u && not (is_empty v) ≡ false
rest_test [] v r = ap (λ y. not (is_empty y)) (r refl)
rest_test (k ∷ u) v r = refl

-- and if the steps agree, no condition fails
pub no_difference : (a b : Step) → Agrees a b → difference a b ≡ None
no_difference a b h = rw (not-true (is_cancel b.effect) (no_cancel_test b.effect h.not_cancelled), same_from b.text a.text h.same_text, rest_test a.pending b.pending h.nothing_pending) refl

-- ---- nodes at which the tables agree so far

module _ (names : KeysymNames) (fresh : List ℕ) (old new : List Definition) where
  -- p is what is pending in the old table after it, and the tables agree along it
  pub record Clear (p : List ℕ) : Type 0 where
    pub reached : IsReached old p
    pub along : AgreeAlong names old new [] [] p

  -- the tables agree along no keys at all, after which nothing is pending
  pub root_clear : Clear []
  root_clear = record { reached = root_reached old; along = tt }

  -- if the tables agree along a node, and at a key by which the old table goes on, they agree along
  -- the node with that key
  pub clear_more : (p : List ℕ) (k : ℕ) → Clear p → effect old p k ≡ extends → Agrees (step names old p k) (step names new (pending new p) k) → Clear (p ++ k ∷ [])
  clear_more p k c e a = record {
    reached = reached_more old p k c.reached e;
    along = agree_joined names old new [] [] p (k ∷ []) c.along (subst (λ (y : List ℕ). Agrees (step names old y k) (step names new (pending new p) k)) (sym c.reached.again) a, tt);
  }

  -- a node, and a key there at which the tables differ: an edge of the node, or a new start that is
  -- not fresh
  pub record Candidate (p : List ℕ) (k : ℕ) : Type 0 where
    pub clear : Clear p
    pub key : (has_edge old p k ≡ true) ⊎ ((p ≡ []) × (has_edge old [] k ≡ false) × (has_edge new [] k ≡ true) × (has_key fresh k ≡ false))
    pub differs : is_some (difference (step names old p k) (step names new (pending new p) k)) ≡ true

  is_some_of : {X : Type 0} (o : Option X) (x : X) → o ≡ Some x → is_some o ≡ true
  is_some_of o x e = ap is_some e

  same_steps : (a : Step) → is_cancel a.effect ≡ false → is_empty a.pending && not (is_empty a.pending) ≡ false → difference a a ≡ None
  same_steps a c r = rw (c, same_from a.text a.text refl, r) refl

  -- the key at which a counterexample ends, once the way to it is a node
  pub candidate_at : (p : List ℕ) (k : ℕ) (kind : Kind) → Clear p → has_key fresh k ≡ false → effect old p k ≢ cancels → difference (step names old p k) (step names new (pending new p) k) ≡ Some kind
      → Candidate p k
  candidate_at p k kind c f n d = go (effect old p k) refl
    where
      go : (x : Effect) → effect old p k ≡ x → Candidate p k
      go ignores e = absurd (
          let i = effect_tests old p k ignores e in
          let none = no_difference (step names old p k) (step names new (pending new p) k) (record {
            not_cancelled = λ h. (let clash : ignores ≡ cancels = sym (ignored_key new (pending new p) k i) ∙ h in cc);
            same_text = ap (λ x. text_by x names new (pending new p) k) (ignored_key new (pending new p) k i) ∙ sym (ap (λ x. text_by x names old p k) e);
            nothing_pending = λ h.
                let p_is : p ≡ [] = sym (ap (λ x. pending_by x p k) e) ∙ h in
                ap (λ x. pending_by x (pending new p) k) (ignored_key new (pending new p) k i) ∙ ap (pending new) p_is;
          }) in
          let clash : None ≡ Some kind = sym none ∙ d in cc)
      go extends e =
          record {
            clear = c;
            key = inl (edge_extends old p k ∙ or_left (is_extended old (p ++ k ∷ [])) (is_sequence old (p ++ k ∷ [])) (effect_tests old p k extends e).1);
            differs =
                is_some_of _ kind d;
          }
      go completes e =
          record {
            clear = c;
            key = inl (edge_extends old p k ∙ or_right (is_extended old (p ++ k ∷ [])) (is_sequence old (p ++ k ∷ [])) (effect_tests old p k completes e).2);
            differs =
                is_some_of _ kind d;
          }
      go passes e =
          let reported = effect_tests old p k passes e in
          let p_is : p ≡ [] = empty_is p reported.3 in
          let old_none : has_edge old p k ≡ false = edge_extends old p k ∙ or_from (is_extended old (p ++ k ∷ [])) (is_sequence old (p ++ k ∷ [])) reported.1 reported.2 in
          record { clear = c; key = inr (p_is, ap (λ y. has_edge old y k) (sym p_is) ∙ old_none, starts p_is e reported.0, f); differs = is_some_of _ kind d }
        where
          starts : p ≡ [] → effect old p k ≡ passes → is_ignored k ≡ false → has_edge new [] k ≡ true
          starts p_is e fed = elim (cases_Bool (has_edge new [] k)) [
            | inl h ↦ h
            | inr h ↦ absurd (
                let none = or_parts (is_extended new (k ∷ [])) (is_sequence new (k ∷ [])) (sym (edge_extends new [] k) ∙ h) in
                let new_passes : effect new [] k ≡ passes = effect_is new [] k false false false true fed none.0 none.1 refl in
                let at_rest : effect new (pending new p) k ≡ passes = ap (λ y. effect new (pending new y) k) p_is ∙ new_passes in
                let agree = no_difference (step names old p k) (step names new (pending new p) k) (record {
                  not_cancelled = λ h. (let clash : passes ≡ cancels = sym at_rest ∙ h in cc);
                  same_text = ap (λ x. text_by x names new (pending new p) k) at_rest ∙ sym (ap (λ x. text_by x names old p k) e);
                  nothing_pending = λ h. ap (λ x. pending_by x (pending new p) k) at_rest;
                }) in
                let clash : None ≡ Some kind = sym agree ∙ d in cc)
          ]
      go cancels e = absurd (n e)

  -- ---- from a counterexample to a difference that is no longer

  -- a difference with no more keys than q, w and k, and with these keys if it has as many
  abbrev pub Reduces : List ℕ → List ℕ → ℕ → Type 0
  Reduces q w k = (r : List ℕ) × Candidate r k × ((r ≡ q ++ w) ⊎ (length r < length q + length w))

  -- what `reduced` shows from any node
  abbrev pub AlwaysReduces : List ℕ → ℕ → Kind → Type 0
  AlwaysReduces w k kind = (q : List ℕ) → Clear q → uncancelled_from old q (w ++ k ∷ []) ≡ true → AgreeAlong names old new q (pending new q) w
      → difference (step names old (pending_from old q w) k) (step names new (pending_from new (pending new q) w) k) ≡ Some kind → Reduces q w k

  -- from the node p, over the keys w at which the tables agree, to the key k at which they differ:
  -- a difference with no more keys, and with those of p and w if it has as many
  pub reduced : (p w : List ℕ) (k : ℕ) (kind : Kind) → Clear p → has_key fresh k ≡ false → uncancelled_from old p (w ++ k ∷ []) ≡ true → AgreeAlong names old new p (pending new p) w
      → difference (step names old (pending_from old p w) k) (step names new (pending_from new (pending new p) w) k) ≡ Some kind
      → Reduces p w k
  reduced p [] k kind c f u a d = (p, candidate_at p k kind c f (uncancelled_head old p k [] u) d, inl (sym (append-nil p)))
  reduced p (j ∷ w) k kind c f u a d = go (λ q cq uq aq dq. reduced q w k kind cq f uq aq dq) (effect old p j) refl
    where
      new_follows : (p : List ℕ) (j : ℕ) → pending new (p ++ j ∷ []) ≡ pending_after new (pending new p) j
      new_follows p j = pending_from-append new [] p (j ∷ [])

      -- the same, with both tables after the key j
      from : AlwaysReduces w k kind → (q : List ℕ) → pending_after old p j ≡ q → pending_after new (pending new p) j ≡ pending new q → Clear q → Reduces q w k
      from again q eo en cq =
          let uq : uncancelled_from old q (w ++ k ∷ []) ≡ true = subst (λ (y : List ℕ). uncancelled_from old y (w ++ k ∷ []) ≡ true) eo (uncancelled_rest old p j (w ++ k ∷ []) u) in
          let aq : AgreeAlong names old new q (pending new q) w =
          subst (λ (y : List ℕ). AgreeAlong names old new y (pending new q) w) eo (subst (λ (y : List ℕ). AgreeAlong names old new (pending_after old p j) y w) en a.1) in
          let dq : difference (step names old (pending_from old q w) k) (step names new (pending_from new (pending new q) w) k) ≡ Some kind =
          subst (λ (y : List ℕ). difference (step names old (pending_from old y w) k) (step names new (pending_from new (pending new q) w) k) ≡ Some kind) eo
          (subst (λ (y : List ℕ). difference (step names old (pending_from old (pending_after old p j) w) k) (step names new (pending_from new y w) k) ≡ Some kind) en d) in
          again q cq uq aq dq

      -- what is shorter or as long after fewer keys is shorter
      shorter : (q : List ℕ) → length q < length p + 1 → Reduces q w k
          → Reduces p (j ∷ w) k
      shorter q l (r, cand, inl e) = (r, cand, inr (let n : length r ≡ length q + length w = ap length e ∙ length-append q w in omega arith))
      shorter q l (r, cand, inr h) = (r, cand, inr (omega arith))

      nothing_pending : AlwaysReduces w k kind → (e : pending_after old p j ≡ []) → Reduces p (j ∷ w) k
      nothing_pending again e = shorter [] (omega arith) (from again [] e (a.0.nothing_pending e) root_clear)

      go : AlwaysReduces w k kind → (x : Effect) → effect old p j ≡ x → Reduces p (j ∷ w) k
      go again ignores e =
          shorter p (omega arith) (from again p (ap (λ x. pending_by x p j) e) (ap (λ x. pending_by x (pending new p) j) (ignored_key new (pending new p) j (effect_tests old p j ignores e))) c)
      go again extends e =
          let r = from again (p ++ j ∷ []) (ap (λ x. pending_by x p j) e) (sym (new_follows p j)) (clear_more p j c e a.0) in
          (r.0, r.1, regroup r.0 r.2)
        where
          regroup : (r : List ℕ) → (r ≡ (p ++ j ∷ []) ++ w) ⊎ (length r < length (p ++ j ∷ []) + length w) → (r ≡ p ++ j ∷ w) ⊎ (length r < length p + length (j ∷ w))
          regroup r (inl h) = inl (h ∙ append_assoc p (j ∷ []) w)
          regroup r (inr h) = inr (let n : length (p ++ j ∷ []) ≡ length p + 1 = length-append p (j ∷ []) in omega arith)
      go again completes e = nothing_pending again (ap (λ x. pending_by x p j) e)
      go again passes e = nothing_pending again (ap (λ x. pending_by x p j) e)
      go again cancels e = absurd (uncancelled_head old p j (w ++ k ∷ []) u e)
