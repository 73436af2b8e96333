-- What the passes know at a node, one key on, and what they find at a leaf.
use Rattle.std.proofs.Common.{◌≡◌, ℕ, ◌<◌, List, [], ◌∷◌, ◌++◌, Bool, true, false, cond, not, ◌&&◌, ◌||◌, length, refl, sym, ◌∙◌, ap, ap₂, subst, inl, inr, Option, Some, None}
use Rattle.std.specs.Prelude.{◌==◌, is_some, IfSome}
use Rattle.std.specs.Option.{option_map, option_map_or}
use Rattle.std.proofs.lemmas.Bool.{cases_Bool}
use Rattle.keysym_core.specs.Names.{KeysymNames, text}
use Rattle.compose_model.specs.Table.{Definition, same, has_key, is_sequence, is_extended, is_table, text_at}
use Rattle.compose_model.specs.Step.{Step, step, pending, pending_after, is_cancel, is_empty}
use Rattle.compose_model.specs.Follows.{cancelled, text_differs, waiting, difference}
use Rattle.compose_model.specs.Nodes.{nodes, is_node, node, number_of, has_edge}
use Rattle.compose_model.specs.Certificate.{types_itself}
use Rattle.compose_model.proofs.NodeLemmas.{root_number, node_zero, node_at_number, number_below, root_is_node, pending_is_node, extended_is_node}
use Rattle.compose_model.proofs.Lift.{not_extended}
use Rattle.compose_read.specs.Settle.{IsSettled}
use Rattle.compose_tree.specs.Targets.{target_of, leaf_number}
use Rattle.compose_tree.specs.declared.table.NodeId.{NodeId}
use Rattle.compose_tree.specs.declared.table.Target.{Target}
use Rattle.compose_tree.specs.declared.table.Target.TheVariants.{Node, Leaf}
use Rattle.compose_tree.proofs.Steps.{Leads, leads}
use Rattle.compose_walk.specs.Steps.{IsStep, difference_of}
use Rattle.compose_walk.specs.declared.step.KeyStep.{KeyStep}
use Rattle.compose_walk.proofs.Candidates.{shorter_node}
use Rattle.compose_walk.proofs.NodeNumbers.{number_at_node, node_is_node}
use Rattle.compose_walk.proofs.Standing.{zero_test, differs_alike}
use Rattle.compose_compare.specs.declared.Change.TheVariants.{Kept, Changed, Waiting, Removed, Added, NewStart}
use Rattle.compose_compare.specs.Change.{agrees, agree_along, change, is_new_start, stands, position_after}
use Rattle.compose_compare.specs.Passes.{node_id, node_of, node_in, position_node, begins_anew, old_change, new_change}
use Rattle.compose_compare.proofs.Sequences.{before_last}
use Rattle.compose_compare.proofs.Pass.{position_on, position_when_kept}

-- ---- the node of the same keys

-- if there is one, it is that of the keys
pub found_node : (table : List Definition) (p : List ℕ) (n : NodeId) → Some n ≡ node_of table p → (is_node table p ≡ true) × (n.0 ≡ number_of table p)
found_node table p n e = go (is_node table p) refl e
  where
    go : (b : Bool) → is_node table p ≡ b → Some n ≡ cond b (Some (node_id (number_of table p))) None → (is_node table p ≡ true) × (n.0 ≡ number_of table p)
    go true h e = (h, (let is : n ≡ node_id (number_of table p) = cc in ap (λ (m : NodeId). m.0) is))
    go false h e = cc

pub found_below : (table : List Definition) (p : List ℕ) (n : NodeId) → Some n ≡ node_of table p → n.0 < length (nodes table)
found_below table p n e = let f = found_node table p n e in subst (λ (m : ℕ). m < length (nodes table)) (sym f.1) (number_below table p f.0)

-- the node that a table has for some keys is these keys
pub found_path : (table : List Definition) (p : List ℕ) (n : NodeId) → Some n ≡ node_of table p → node table n.0 ≡ p
found_path table p n e = let f = found_node table p n e in ap (node table) f.1 ∙ node_at_number table p f.0

-- the number of the node that a table has for some keys is below the count of its nodes
pub some_below : (table : List Definition) (p : List ℕ) (o : Option NodeId) → o ≡ node_of table p → IfSome o (λ (n : NodeId). n.0 < length (nodes table))
some_below table p None e = tt
some_below table p (Some n) e = found_below table p n e

-- if there is none, no key has a target
pub no_target : (table : List Definition) (p : List ℕ) (k : ℕ) → None ≡ node_of table p → None ≡ target_of table p k
no_target table p k e = go (target_of table p k) (leads table p k)
  where
    absent : (b : Bool) → is_node table p ≡ b → None ≡ cond b (Some (node_id (number_of table p))) None → is_node table p ≡ true → ⊥
    absent true h e g = cc
    absent false h e g = let clash : true ≡ false = sym g ∙ h in cc

    go : (t : Option Target) → Leads table p k t → None ≡ t
    go (Some (Node n)) l = absurd (absent (is_node table p) refl e (shorter_node table p (k ∷ []) l.is_node))
    go (Some (Leaf n)) l = absurd (absent (is_node table p) refl e (extended_is_node table p (before_last table p k l.sequence)))
    go None l = refl

-- one key on
pub node_on : (table : List Definition) (p : List ℕ) (k : ℕ) → node_in (target_of table p k) ≡ node_of table (p ++ k ∷ [])
node_on table p k = go (is_node table (p ++ k ∷ [])) (is_sequence table (p ++ k ∷ []))
  where
    go : (a b : Bool)
        → node_in (cond a (Some (Node (record { 0 = number_of table (p ++ k ∷ []) }))) (cond b (Some (Leaf (record { 0 = leaf_number table (p ++ k ∷ []) }))) None))
        ≡ cond a (Some (node_id (number_of table (p ++ k ∷ [])))) None
    go true b = refl
    go false true = refl
    go false false = refl

-- a key begins a sequence exactly if it has a target at the root
pub root_edge : (table : List Definition) (k : ℕ) → is_some (target_of table (node table 0) k) ≡ has_edge table [] k
root_edge table k = ap (λ p. is_some (target_of table p k)) (node_zero table) ∙ go (is_node table (k ∷ [])) (is_sequence table (k ∷ []))
  where
    go : (a b : Bool) → is_some (cond a (Some (Node (record { 0 = number_of table (k ∷ []) }))) (cond b (Some (Leaf (record { 0 = leaf_number table (k ∷ []) }))) None)) ≡ a || b
    go true b = refl
    go false true = refl
    go false false = refl

-- ---- the new table's position

module _ (names : KeysymNames) (old new : List Definition) (p : List ℕ) where
  -- its position is that of its own run over the keys
  pub record Stood (t : NodeId) : Type 0 where
    pub stands : stands names old new p ≡ Some (pending new p)
    pub number : t.0 ≡ number_of new (pending new p)

  pub stood : (t : NodeId) → Some t ≡ position_node names old new p → Stood t
  stood t e = go (agree_along names old new [] [] p) refl e
    where
      go : (b : Bool) → agree_along names old new [] [] p ≡ b → Some t ≡ option_map (λ v. node_id (number_of new v)) (cond b (Some (pending new p)) None) → Stood t
      go true h e = record { stands = ap (λ c. cond c (Some (pending new p)) None) h; number = (let is : t ≡ node_id (number_of new (pending new p)) = cc in ap (λ (m : NodeId). m.0) is) }
      go false h e = cc

  pub lost : None ≡ position_node names old new p → stands names old new p ≡ None
  lost e = go (stands names old new p) e
    where
      go : (o : Option (List ℕ)) → None ≡ option_map (λ v. node_id (number_of new v)) o → o ≡ None
      go None e = refl
      go (Some v) e = cc

  pub stood_node : is_node new (pending new p) ≡ true
  stood_node = pending_is_node new [] p (root_is_node new)

  -- the node that is the new table's position has a number below the number of its nodes
  pub stood_below : (t : NodeId) → Some t ≡ position_node names old new p → t.0 < length (nodes new)
  stood_below t e = subst (λ (m : ℕ). m < length (nodes new)) (sym (stood t e).number) (number_below new (pending new p) stood_node)

  pub stood_path : (t : NodeId) → Some t ≡ position_node names old new p → node new t.0 ≡ pending new p
  stood_path t e = ap (node new) (stood t e).number ∙ node_at_number new (pending new p) stood_node

-- steps agree if they do not differ
agrees_unless : (a b : Step) → agrees a b ≡ not (is_some (difference a b))
agrees_unless a b = go (is_cancel b.effect) (same b.text a.text) (is_empty a.pending) (is_empty b.pending)
  where
    go : (c s e f : Bool) → not c && (s && (not e || f)) ≡ not (is_some (cond c (Some cancelled) (cond (not s) (Some text_differs) (cond (e && not f) (Some waiting) None))))
    go true s e f = refl
    go false false e f = refl
    go false true true true = refl
    go false true true false = refl
    go false true false f = refl

module _ (names : KeysymNames) (old new : List Definition) (p : List ℕ) (k : ℕ) (t_old : is_table old ≡ true) (here : is_node old p ≡ true) where
  -- without a position, the new table has none one key on
  pub still_lost : None ≡ position_node names old new p → None ≡ position_node names old new (p ++ k ∷ [])
  still_lost e = sym (ap (option_map (λ v. node_id (number_of new v))) (position_on names old new p k t_old here ∙ ap (position_after names old new p k) (lost names old new p e)))

  module _ (t : NodeId) (e : Some t ≡ position_node names old new p) (a b : KeyStep) (sa : IsStep names old p k a) (sb : IsStep names new (node new t.0) k b) where
    on : (c : Bool) → is_some (difference_of a b) ≡ c → stands names old new (p ++ k ∷ []) ≡ cond (not c) (Some (pending_after new (pending new p) k)) None
    on c h =
        position_on names old new p k t_old here ∙ ap (position_after names old new p k) (stood names old new p t e).stands
        ∙ ap (λ y. cond y (Some (pending_after new (pending new p) k)) None) (agrees_unless (step names old p k) (step names new (pending new p) k)
        ∙ ap not
        (sym (differs_alike names old new p (node new t.0) k a b here (ap (is_node new) (stood_path names old new p t e) ∙ stood_node names old new p) (stood_path names old new p t e) sa sb) ∙ h))

    -- with a position, it has none once the tables differ
    pub now_lost : is_some (difference_of a b) ≡ true → None ≡ position_node names old new (p ++ k ∷ [])
    now_lost h = sym (ap (option_map (λ v. node_id (number_of new v))) (on true h))

    -- and otherwise its position is the one to which its step leads
    pub position_next : is_some (difference_of a b) ≡ false → Some b.next ≡ position_node names old new (p ++ k ∷ [])
    position_next h =
        ap Some (next b.next (sb.next ∙ ap (λ v. number_of new (pending_after new v k)) (stood_path names old new p t e)))
        ∙ sym (ap (option_map (λ v. node_id (number_of new v))) (on false h))
      where
        next : (n : NodeId) → n.0 ≡ number_of new (pending_after new (pending new p) k) → n ≡ node_id (number_of new (pending_after new (pending new p) k))
        next n e i = record { 0 = e i }

-- ---- at the root

-- after no keys the new table's position is its root
pub root_position : (names : KeysymNames) (old new : List Definition) → Some (node_id 0) ≡ position_node names old new (node old 0)
root_position names old new = ap (λ n. Some (node_id n)) (sym (root_number new)) ∙ ap (position_node names old new) (sym (node_zero old))

-- each table has its own root for the root of another table
pub root_same : (table other : List Definition) → Some (node_id 0) ≡ node_of table (node other 0)
root_same table other =
    ap (λ n. Some (node_id n)) (sym (root_number table)) ∙ sym (ap (λ b. cond b (Some (node_id (number_of table []))) None) (root_is_node table))
    ∙ ap (node_of table) (sym (node_zero other))

-- the root begins nothing anew
pub root_anew : (fresh : List ℕ) (old new : List Definition) → false ≡ begins_anew fresh old (node new 0)
root_anew fresh old new = ap (begins_anew fresh old) (sym (node_zero new))

-- ---- at a leaf

-- a list that goes on is not a sequence
no_sequence : (table : List Definition) (z : List ℕ) → IsSettled table → is_extended table z ≡ true → is_sequence table z ≡ false
no_sequence table z s x = elim (cases_Bool (is_sequence table z)) [
  | inl h ↦ absurd (let clash : true ≡ false = sym x ∙ not_extended table z s.prefix_free h in cc)
  | inr h ↦ h
]

module _ (names : KeysymNames) (fresh : List ℕ) (old new : List Definition) where
  -- a sequence of the old table
  pub old_reported : (p : List ℕ) (k : ℕ) → IsSettled new → is_sequence old (p ++ k ∷ []) ≡ true → (kept : Bool) → kept ≡ is_some (position_node names old new (p ++ k ∷ []))
      → old_change kept (target_of new p k) ≡ change names fresh old new (p ++ k ∷ [])
  old_reported p k s o kept h = go (target_of new p k) (leads new p k) kept (h ∙ some_mapped (stands names old new (p ++ k ∷ [])) ∙ position_when_kept names old new (p ++ k ∷ [])) ∙ sym whole
    where
      some_mapped : (o : Option (List ℕ)) → is_some (option_map (λ v. node_id (number_of new v)) o) ≡ is_some o
      some_mapped None = refl
      some_mapped (Some v) = refl

      whole : change names fresh old new (p ++ k ∷ [])
          ≡ cond (agree_along names old new [] [] (p ++ k ∷ [])) Kept (cond (is_sequence new (p ++ k ∷ [])) Changed (cond (is_extended new (p ++ k ∷ [])) Waiting Removed))
      whole =
          ap
          (λ y. cond y (cond (agree_along names old new [] [] (p ++ k ∷ [])) Kept (cond (is_sequence new (p ++ k ∷ [])) Changed (cond (is_extended new (p ++ k ∷ [])) Waiting Removed)))
          (cond (is_new_start names fresh old new (p ++ k ∷ [])) NewStart Added)) o

      by : (c a q x : Bool) (t : Option Target) → c ≡ a → old_change false t ≡ cond q Changed (cond x Waiting Removed) → old_change c t ≡ cond a Kept (cond q Changed (cond x Waiting Removed))
      by c true q x t e f = ap (λ b. old_change b t) e
      by c false q x t e f = ap (λ b. old_change b t) e ∙ f

      go : (t : Option Target) → Leads new p k t → (c : Bool) → c ≡ agree_along names old new [] [] (p ++ k ∷ [])
          → old_change c t ≡ cond (agree_along names old new [] [] (p ++ k ∷ [])) Kept (cond (is_sequence new (p ++ k ∷ [])) Changed (cond (is_extended new (p ++ k ∷ [])) Waiting Removed))
      go (Some (Node n)) l c e = by c (agree_along names old new [] [] (p ++ k ∷ [])) (is_sequence new (p ++ k ∷ [])) (is_extended new (p ++ k ∷ [])) (Some (Node n)) e
          (sym (ap₂ (λ q x. cond q Changed (cond x Waiting Removed)) (no_sequence new (p ++ k ∷ []) s l.extended) l.extended))
      go (Some (Leaf n)) l c e = by c (agree_along names old new [] [] (p ++ k ∷ [])) (is_sequence new (p ++ k ∷ [])) (is_extended new (p ++ k ∷ [])) (Some (Leaf n)) e
          (sym (ap (λ q. cond q Changed (cond (is_extended new (p ++ k ∷ [])) Waiting Removed)) l.sequence))
      go None l c e = by c (agree_along names old new [] [] (p ++ k ∷ [])) (is_sequence new (p ++ k ∷ [])) (is_extended new (p ++ k ∷ [])) None e
          (sym (ap₂ (λ q x. cond q Changed (cond x Waiting Removed)) l.sequence l.extended))

  -- a sequence of the new table
  pub new_reported : (p : List ℕ) (k : ℕ) → IsSettled old → (starts : Bool) → starts ≡ is_new_start names fresh old new (p ++ k ∷ [])
      → new_change (target_of old p k) starts ≡ cond (is_sequence old (p ++ k ∷ [])) None (Some (change names fresh old new (p ++ k ∷ [])))
  new_reported p k s starts h = go (target_of old p k) (leads old p k)
    where
      alone : is_sequence old (p ++ k ∷ []) ≡ false → Some (cond starts NewStart Added) ≡ cond (is_sequence old (p ++ k ∷ [])) None (Some (change names fresh old new (p ++ k ∷ [])))
      alone e =
          ap (λ c. Some (cond c NewStart Added)) h
          ∙ sym
          (ap
          (λ y. cond y None
          (Some
          (cond y (cond (agree_along names old new [] [] (p ++ k ∷ [])) Kept (cond (is_sequence new (p ++ k ∷ [])) Changed (cond (is_extended new (p ++ k ∷ [])) Waiting Removed)))
          (cond (is_new_start names fresh old new (p ++ k ∷ [])) NewStart Added)))) e)

      go : (t : Option Target) → Leads old p k t → new_change t starts ≡ cond (is_sequence old (p ++ k ∷ [])) None (Some (change names fresh old new (p ++ k ∷ [])))
      go (Some (Node n)) l = alone (no_sequence old (p ++ k ∷ []) s l.extended)
      go (Some (Leaf n)) l = sym (ap (λ y. cond y None (Some (change names fresh old new (p ++ k ∷ [])))) l.sequence)
      go None l = alone l.sequence

  -- the root alone has the number 0
  zero_is_empty : (i : ℕ) → i < length (nodes new) → (i == 0) ≡ is_empty (node new i)
  zero_is_empty i below = ap (λ n. n == 0) (sym (number_at_node new i below)) ∙ zero_test new (node new i) (node_is_node new i below)

  -- what begins anew, one key on
  pub anew_on : (i k : ℕ) → i < length (nodes new)
      → cond (i == 0) (not (has_edge old [] k) && not (has_key fresh k)) (begins_anew fresh old (node new i)) ≡ begins_anew fresh old (node new i ++ k ∷ [])
  anew_on i k below = go (node new i) (zero_is_empty i below)
    where
      go : (p : List ℕ) → (i == 0) ≡ is_empty p → cond (i == 0) (not (has_edge old [] k) && not (has_key fresh k)) (begins_anew fresh old p) ≡ begins_anew fresh old (p ++ k ∷ [])
      go [] e = ap (λ b. cond b (not (has_edge old [] k) && not (has_key fresh k)) false) e
      go (j ∷ p) e = ap (λ b. cond b (not (has_edge old [] k) && not (has_key fresh k)) (begins_anew fresh old (j ∷ p))) e

  -- a sequence that begins anew is a new start, unless it is one key with its own text
  pub starts_on : (i k : ℕ) (t : List ℕ) → i < length (nodes new) → is_sequence new (node new i ++ k ∷ []) ≡ true → text_at new (node new i ++ k ∷ []) ≡ Some t
      → begins_anew fresh old (node new i ++ k ∷ []) && not (i == 0 && same (text names k) t) ≡ is_new_start names fresh old new (node new i ++ k ∷ [])
  starts_on i k t below sequence at = go (node new i) (zero_is_empty i below) sequence at
    where
      regroup : (a b : Bool) (x : Bool) → (not a && not b) && not x ≡ not a && (not b && not x)
      regroup true b x = refl
      regroup false b x = refl

      go : (p : List ℕ) → (i == 0) ≡ is_empty p → is_sequence new (p ++ k ∷ []) ≡ true → text_at new (p ++ k ∷ []) ≡ Some t
          → begins_anew fresh old (p ++ k ∷ []) && not (i == 0 && same (text names k) t) ≡ is_new_start names fresh old new (p ++ k ∷ [])
      go [] e s a =
          ap (λ b. begins_anew fresh old (k ∷ []) && not (b && same (text names k) t)) e
          ∙ regroup (has_edge old [] k) (has_key fresh k) (same (text names k) t)
          ∙ ap (λ b. not (has_edge old [] k) && (not (has_key fresh k) && not b)) (sym (ap₂ (λ b o. b && option_map_or (same (text names k)) o false) s a))
      go (j ∷ p) e s a =
          ap (λ b. begins_anew fresh old (j ∷ p) && not (b && same (text names k) t)) e
          ∙ regroup (has_edge old [] j) (has_key fresh j) false
          ∙ ap (λ b. not (has_edge old [] j) && (not (has_key fresh j) && not (b && types_itself names new j))) (sym (not_empty p))
        where
          not_empty : (q : List ℕ) → is_empty (q ++ k ∷ []) ≡ false
          not_empty [] = refl
          not_empty (x ∷ q) = refl
