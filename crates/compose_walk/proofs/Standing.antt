-- How the partners of the old nodes change from edge to edge.
use Rattle.std.proofs.Common.{◌≡◌, ℕ, List, [], ◌∷◌, ◌++◌, Bool, true, false, cond, not, ◌&&◌, ◌||◌, set, refl, sym, ◌∙◌, ap, inl, inr, eqb-true, eq-eqb, Option, Some, None}
use Rattle.std.specs.Prelude.{◌==◌, nat_lt, is_some}
use Rattle.std.specs.Option.{option_map}
use Rattle.std.proofs.Math.Bool.{and_assoc}
use Rattle.std.proofs.lemmas.Bool.{or_left, or_right, cases_Bool}
use Rattle.std.proofs.lemmas.List.Folds.{list_any-append}
use Rattle.keysym_core.specs.Names.{KeysymNames}
use Rattle.compose_model.specs.Table.{Definition, same, has_key, is_table}
use Rattle.compose_model.specs.Step.{step, is_empty, is_cancel, effect, pending, pending_after, pending_from}
use Rattle.compose_model.specs.Follows.{cancelled, text_differs, waiting, difference}
use Rattle.compose_model.specs.Nodes.{is_node, node, number_of}
use Rattle.compose_model.proofs.Steps.{pending_from-append}
use Rattle.compose_model.proofs.NodeLemmas.{same_is, same_from, root_is_node, root_number, zero_is_root, node_at_number, step_lands}
use Rattle.compose_model.proofs.Reached.{node_reached}
use Rattle.compose_walk.specs.Kinds.{kind_of}
use Rattle.compose_walk.specs.Pass.{differs_at, agrees_from, agrees}
use Rattle.compose_walk.specs.Steps.{text_bytes, IsStep, difference_of}
use Rattle.compose_walk.specs.Stands.{without_last, last_key, stand, is_done, partners_at}
use Rattle.compose_walk.specs.declared.evidence.Kind.{Kind as Found_kind}
use Rattle.compose_walk.specs.declared.evidence.Kind.TheVariants.{Text, Cancelled, Waiting}
use Rattle.compose_walk.specs.declared.pass.Partner.{Partner}
use Rattle.compose_walk.specs.declared.step.KeyStep.{KeyStep}
use Rattle.compose_walk.proofs.Candidates.{shorter_node}
use Rattle.compose_walk.proofs.NodeNumbers.{on_nodes, set_node}

-- ---- the steps of the program differ as the model's do

-- a node has the number 0 exactly if it is the root
pub zero_test : (table : List Definition) (q : List ℕ) → is_node table q ≡ true → number_of table q == 0 ≡ is_empty q
zero_test table [] h = eq-eqb (number_of table []) 0 (root_number table)
zero_test table (k ∷ q) h = elim (cases_Bool (number_of table (k ∷ q) == 0)) [
  | inl e ↦ absurd (let is : k ∷ q ≡ [] = zero_is_root table (k ∷ q) h (eqb-true (number_of table (k ∷ q)) 0 e) in cc)
  | inr e ↦ e
]

-- steps of the program differ in the kind in which those of the model differ, or neither do
pub differ_alike : (names : KeysymNames) (old new : List Definition) (p v : List ℕ) (k : ℕ) (a b : KeyStep) → is_node old p ≡ true → is_node new v ≡ true → IsStep names old p k a
    → IsStep names new v k b
    → option_map kind_of (difference_of a b) ≡ difference (step names old p k) (step names new v k)
differ_alike names old new p v k a b hp hv sa sb =
    by (b.cancels) (same (text_bytes b.text) (text_bytes a.text)) (a.next.0 == 0 && not (b.next.0 == 0))
    ∙ ap (λ c. cond c (Some cancelled) (cond (not (same (text_bytes b.text) (text_bytes a.text))) (Some text_differs) (cond (a.next.0 == 0 && not (b.next.0 == 0)) (Some waiting) None))) sb.cancels
    ∙ ap
    (λ t. cond (is_cancel (effect new v k)) (Some cancelled)
    (cond (not (same t (text_bytes a.text))) (Some text_differs) (cond (a.next.0 == 0 && not (b.next.0 == 0)) (Some waiting) None))) sb.text
    ∙ ap
    (λ t. cond (is_cancel (effect new v k)) (Some cancelled)
    (cond (not (same (step names new v k).text t)) (Some text_differs) (cond (a.next.0 == 0 && not (b.next.0 == 0)) (Some waiting) None))) sa.text
    ∙ ap
    (λ t. cond (is_cancel (effect new v k)) (Some cancelled)
    (cond (not (same (step names new v k).text (step names old p k).text)) (Some text_differs) (cond (t && not (b.next.0 == 0)) (Some waiting) None)))
    (ap (λ n. n == 0) sa.next ∙ zero_test old (pending_after old p k) (step_lands old p k hp))
    ∙ ap
    (λ t. cond (is_cancel (effect new v k)) (Some cancelled)
    (cond (not (same (step names new v k).text (step names old p k).text)) (Some text_differs) (cond (is_empty (pending_after old p k) && not t) (Some waiting) None)))
    (ap (λ n. n == 0) sb.next ∙ zero_test new (pending_after new v k) (step_lands new v k hv))
  where
    by : (c s r : Bool)
        → option_map kind_of (cond c (Some Cancelled) (cond (not s) (Some Text) (cond r (Some Waiting) None))) ≡ cond c (Some cancelled) (cond (not s) (Some text_differs) (cond r (Some waiting) None))
    by true s r = refl
    by false false r = refl
    by false true true = refl
    by false true false = refl

some_alike : (o : Option Found_kind) → is_some (option_map kind_of o) ≡ is_some o
some_alike None = refl
some_alike (Some x) = refl

-- whether they differ
pub differs_alike : (names : KeysymNames) (old new : List Definition) (p v : List ℕ) (k : ℕ) (a b : KeyStep) → is_node old p ≡ true → is_node new v ≡ true → v ≡ pending new p → IsStep names old p k a
    → IsStep names new v k b
    → is_some (difference_of a b) ≡ differs_at names old new p k
differs_alike names old new p v k a b hp hv e sa sb =
    sym (some_alike (difference_of a b)) ∙ ap is_some (differ_alike names old new p v k a b hp hv sa sb) ∙ ap (λ y. is_some (difference (step names old p k) (step names new y k))) e

-- ---- a list without its last key, and its last key

pub prefix_push : (p : List ℕ) (k : ℕ) → without_last (p ++ k ∷ []) ≡ p
prefix_push [] k = refl
prefix_push (j ∷ []) k = refl
prefix_push (j ∷ i ∷ p) k = ap (λ y. j ∷ y) (prefix_push (i ∷ p) k)

pub last_push : (p : List ℕ) (k : ℕ) → last_key (p ++ k ∷ []) ≡ k
last_push [] k = refl
last_push (j ∷ []) k = refl
last_push (j ∷ i ∷ p) k = last_push (i ∷ p) k

-- a list that is not empty is the list without its last key, and then that key
pub pushed : (q : List ℕ) → is_empty q ≡ false → q ≡ without_last q ++ last_key q ∷ []
pushed [] h = cc
pushed (k ∷ []) h = refl
pushed (k ∷ j ∷ p) h = ap (λ y. k ∷ y) (pushed (j ∷ p) refl)

push_some : (p : List ℕ) (k : ℕ) → is_empty (p ++ k ∷ []) ≡ false
push_some [] k = refl
push_some (j ∷ p) k = refl

-- a node without its last key is a node
pub prefix_node : (table : List Definition) (q : List ℕ) → is_node table q ≡ true → is_node table (without_last q) ≡ true
prefix_node table [] h = root_is_node table
prefix_node table (k ∷ q) h = shorter_node table (without_last (k ∷ q)) (last_key (k ∷ q) ∷ []) (ap (is_node table) (sym (pushed (k ∷ q) refl)) ∙ h)

module _ (names : KeysymNames) (old new : List Definition) where
  -- ---- agreement along one key more

  pub agrees_from-append : (u v w x : List ℕ) → agrees_from names old new u v (w ++ x) ≡ agrees_from names old new u v w && agrees_from names old new (pending_from old u w) (pending_from new v w) x
  agrees_from-append u v [] x = refl
  agrees_from-append u v (k ∷ w) x =
      ap (λ b. not (is_some (difference (step names old u k) (step names new v k))) && b) (agrees_from-append (pending_after old u k) (pending_after new v k) w x)
      ∙ sym
      (and_assoc (not (is_some (difference (step names old u k) (step names new v k)))) (agrees_from names old new (pending_after old u k) (pending_after new v k) w)
      (agrees_from names old new (pending_from old u (k ∷ w)) (pending_from new v (k ∷ w)) x))

  module _ (t_old : is_table old ≡ true) where
    -- the tables agree along one more key exactly if they agree so far and do not differ at it
    pub agrees_push : (p : List ℕ) (k : ℕ) → is_node old p ≡ true → agrees names old new (p ++ k ∷ []) ≡ agrees names old new p && not (differs_at names old new p k)
    agrees_push p k h =
        agrees_from-append [] [] p (k ∷ [])
        ∙ ap (λ y. agrees names old new p && (not (is_some (difference (step names old y k) (step names new (pending new p) k))) && true)) (node_reached old p t_old h).again
        ∙ ap (λ b. agrees names old new p && b) (and_true (not (differs_at names old new p k)))
      where
        and_true : (b : Bool) → b && true ≡ b
        and_true true = refl
        and_true false = refl

    -- ---- one edge

    -- what is kept for the node q
    abbrev entry : ℕ → List ℕ → List ℕ → Option Partner
    entry i ks q = cond (is_done old i ks q) (stand names old new q) None

    one_key : (ks : List ℕ) (k j : ℕ) → has_key (ks ++ k ∷ []) j ≡ has_key ks j || (j == k || false)
    one_key ks k j = list_any-append (λ i. j == i) ks (k ∷ [])

    -- the edges that were visited, one key later: that of p and k as well, and no other one
    done_other : (p : List ℕ) (i : ℕ) (ks : List ℕ) (k : ℕ) (q : List ℕ) → is_node old p ≡ true → number_of old p ≡ i → is_node old q ≡ true → same q (p ++ k ∷ []) ≡ false
        → is_done old i (ks ++ k ∷ []) q ≡ is_done old i ks q
    done_other p i ks k q hp e hq n =
        ap (λ b. is_empty q || (nat_lt (number_of old (without_last q)) i || (number_of old (without_last q) == i && b))) (one_key ks k (last_key q))
        ∙ go (is_empty q) refl (number_of old (without_last q) == i) refl (last_key q == k) refl (nat_lt (number_of old (without_last q)) i) (has_key ks (last_key q))
      where
        go : (a : Bool) → is_empty q ≡ a → (b : Bool) → number_of old (without_last q) == i ≡ b → (c : Bool) → last_key q == k ≡ c → (d h : Bool)
            → a || (d || (b && (h || (c || false)))) ≡ a || (d || (b && h))
        go true ea b eb c ec d h = refl
        go false ea false eb c ec d h = refl
        go false ea true eb false ec d h = ap (λ z. d || z) (or_none h)
          where
            or_none : (h : Bool) → h || false ≡ h
            or_none true = refl
            or_none false = refl
        go false ea true eb true ec d h = absurd (
            let at : without_last q ≡ p =
            sym (node_at_number old (without_last q) (prefix_node old q hq)) ∙ ap (node old) (eqb-true (number_of old (without_last q)) i eb ∙ sym e) ∙ node_at_number old p hp in
            let is : q ≡ p ++ k ∷ [] = pushed q ea ∙ ap (λ y. y ++ last_key q ∷ []) at ∙ ap (λ y. p ++ y ∷ []) (eqb-true (last_key q) k ec) in
            let clash : true ≡ false = sym (same_from q (p ++ k ∷ []) is) ∙ n in cc)

    done_here : (p : List ℕ) (i : ℕ) (ks : List ℕ) (k : ℕ) → number_of old p ≡ i → is_done old i (ks ++ k ∷ []) (p ++ k ∷ []) ≡ true
    done_here p i ks k e =
        or_right (is_empty (p ++ k ∷ []))
        (nat_lt (number_of old (without_last (p ++ k ∷ []))) i || (number_of old (without_last (p ++ k ∷ [])) == i && has_key (ks ++ k ∷ []) (last_key (p ++ k ∷ []))))
        (or_right (nat_lt (number_of old (without_last (p ++ k ∷ []))) i) (number_of old (without_last (p ++ k ∷ [])) == i && has_key (ks ++ k ∷ []) (last_key (p ++ k ∷ [])))
        (ap (λ b. b && has_key (ks ++ k ∷ []) (last_key (p ++ k ∷ []))) (eq-eqb (number_of old (without_last (p ++ k ∷ []))) i (ap (number_of old) (prefix_push p k) ∙ e))
        ∙ ap (has_key (ks ++ k ∷ [])) (last_push p k) ∙ one_key ks k k ∙ or_right (has_key ks k) (k == k || false) (or_left (k == k) false (eq-eqb k k refl))))

    -- nothing is written if the tables differ at the edge, or if it leads to no node
    pub kept_edge : (p : List ℕ) (i : ℕ) (ks : List ℕ) (k : ℕ) → is_node old p ≡ true → number_of old p ≡ i → (is_node old (p ++ k ∷ []) ≡ true → agrees names old new (p ++ k ∷ []) ≡ false)
        → partners_at names old new i ks ≡ partners_at names old new i (ks ++ k ∷ [])
    kept_edge p i ks k hp e none = on_nodes old (entry i ks) (entry i (ks ++ k ∷ [])) at
      where
        no_partner : (q : List ℕ) → agrees names old new q ≡ false → (b : Bool) → cond b (stand names old new q) None ≡ None
        no_partner q h true =
            ap (λ b. cond b (Some (record { new_node = record { 0 = number_of new (pending new q) }; parent = record { 0 = number_of old (without_last q) }; keysym = last_key q })) None) h
        no_partner q h false = refl

        at : (q : List ℕ) → is_node old q ≡ true → entry i ks q ≡ entry i (ks ++ k ∷ []) q
        at q hq = elim (cases_Bool (same q (p ++ k ∷ []))) [
          | inl m ↦ (let is : q ≡ p ++ k ∷ [] = same_is q (p ++ k ∷ []) m in
              let dark : agrees names old new q ≡ false = ap (agrees names old new) is ∙ none (ap (is_node old) (sym is) ∙ hq) in
              no_partner q dark (is_done old i ks q) ∙ sym (no_partner q dark (is_done old i (ks ++ k ∷ []) q)))
          | inr m ↦ ap (λ b. cond b (stand names old new q) None) (sym (done_other p i ks k q hp e hq m))
        ]

    -- if the tables agree at an edge to a node, that node's partner is written
    pub written_edge : (p : List ℕ) (i : ℕ) (ks : List ℕ) (k : ℕ) (s : Partner) → is_node old p ≡ true → number_of old p ≡ i → is_node old (p ++ k ∷ []) ≡ true → agrees names old new p ≡ true
        → differs_at names old new p k ≡ false
        → s.new_node.0 ≡ number_of new (pending_after new (pending new p) k) → s.parent.0 ≡ i → s.keysym ≡ k
        → set (partners_at names old new i ks) (number_of old (p ++ k ∷ [])) (Some s) ≡ partners_at names old new i (ks ++ k ∷ [])
    written_edge p i ks k s hp e hk agree same_step en ep ek =
        ap (set (partners_at names old new i ks) (number_of old (p ++ k ∷ []))) (sym here)
        ∙ set_node old (entry i ks) (entry i (ks ++ k ∷ [])) (p ++ k ∷ []) hk (λ q hq m. ap (λ b. cond b (stand names old new q) None) (sym (done_other p i ks k q hp e hq m)))
      where
        clear : agrees names old new (p ++ k ∷ []) ≡ true
        clear = agrees_push p k hp ∙ ap (λ b. b && not (differs_at names old new p k)) agree ∙ ap not same_step

        is_s : Some
            (record { new_node = record { 0 = number_of new (pending new (p ++ k ∷ [])) }; parent = record { 0 = number_of old (without_last (p ++ k ∷ [])) }; keysym = last_key (p ++ k ∷ []) })
            ≡ Some s
        is_s i1 = Some (record {
          new_node = record { 0 = (ap (number_of new) (pending_from-append new [] p (k ∷ [])) ∙ sym en) i1 };
          parent = record { 0 = (ap (number_of old) (prefix_push p k) ∙ e ∙ sym ep) i1 };
          keysym = (last_push p k ∙ sym ek) i1;
        })

        here : entry i (ks ++ k ∷ []) (p ++ k ∷ []) ≡ Some s
        here =
            ap (λ b. cond b (stand names old new (p ++ k ∷ [])) None) (done_here p i ks k e)
            ∙ ap
            (λ b. cond b
            (Some
            (record {
              new_node = record { 0 = number_of new (pending new (p ++ k ∷ [])) };
              parent = record { 0 = number_of old (without_last (p ++ k ∷ [])) };
              keysym =
                  last_key (p ++ k ∷ []);
            })) None) clear
            ∙ is_s
