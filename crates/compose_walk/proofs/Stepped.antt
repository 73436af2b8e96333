-- What a key does to a table, by its target.
use Rattle.std.proofs.Common.{◌≡◌, ℕ, ◌<◌, length, List, [], true, false, cond, sym, ◌∙◌, ap, subst, Option, Some, None}
use Rattle.std.specs.Prelude.{unwrap_or}
use Rattle.keysym_core.specs.Keysym.{is_ignored}
use Rattle.keysym_core.specs.Names.{KeysymNames, text}
use Rattle.compose_model.specs.Table.{Definition}
use Rattle.compose_model.specs.Step.{Effect, extends, completes, passes, cancels, effect, is_empty, is_cancel, pending_by, text_by}
use Rattle.compose_model.specs.Nodes.{leaves, number_of}
use Rattle.compose_model.proofs.NodeLemmas.{root_number}
use Rattle.compose_tree.specs.declared.table.NodeId.{NodeId}
use Rattle.compose_tree.specs.declared.table.LeafId.{LeafId}
use Rattle.compose_tree.specs.declared.table.Target.{Target}
use Rattle.compose_tree.specs.declared.table.Target.TheVariants.{Node, Leaf}
use Rattle.compose_tree.specs.Targets.{target_of, leaf_text}
use Rattle.compose_tree.proofs.Steps.{Leads, leads, effect_at, effect_by_target}
use Rattle.compose_walk.specs.declared.step.KeyStep.{KeyStep}
use Rattle.compose_walk.specs.Steps.{text_bytes, IsStep}

module _ (names : KeysymNames) (table : List Definition) (p : List ℕ) (k : ℕ) (fed : is_ignored k ≡ false) where
  effect_of : (t : Option Target) → t ≡ target_of table p k → effect table p k ≡ effect_at (is_empty p) t
  effect_of t h = effect_by_target table p k fed ∙ ap (effect_at (is_empty p)) (sym h)

  leads_to : (t : Option Target) → t ≡ target_of table p k → Leads table p k t
  leads_to t h = subst (λ (y : Option Target). Leads table p k y) (sym h) (leads table p k)

  -- the step with this effect
  step_by : (x : Effect) → effect table p k ≡ x → (s : KeyStep) → s.cancels ≡ is_cancel x → text_bytes s.text ≡ text_by x names table p k → s.next.0 ≡ number_of table (pending_by x p k)
      → IsStep names table p k s
  step_by x e s c t n = record {
    cancels = c ∙ sym (ap is_cancel e);
    text = t ∙ sym (ap (λ y. text_by y names table p k) e);
    next = n ∙ sym (ap (λ y. number_of table (pending_by y p k)) e);
  }

  -- a step to a node neither cancels nor commits anything, and that node is pending after it
  pub step_to_node : (n : NodeId) → Some (Node n) ≡ target_of table p k → (s : KeyStep) → s.cancels ≡ false → text_bytes s.text ≡ [] → s.next.0 ≡ n.0 → IsStep names table p k s
  step_to_node n h s c t m = step_by extends (effect_of (Some (Node n)) h) s c t (m ∙ sym (leads_to (Some (Node n)) h).number)

  -- a step to a leaf commits its text and does not cancel, and nothing is pending after it
  pub step_to_leaf : (l : LeafId) (bytes : List ℕ) → Some (Leaf l) ≡ target_of table p k → leaf_text table l.0 ≡ Some bytes → (s : KeyStep) → s.cancels ≡ false → text_bytes s.text ≡ bytes
      → s.next.0 ≡ 0 → IsStep names table p k s
  step_to_leaf l bytes h found s c t m =
      step_by completes (effect_of (Some (Leaf l)) h) s c (t ∙ sym (ap (λ o. unwrap_or o []) (sym (leads_to (Some (Leaf l)) h).text ∙ found))) (m ∙ sym (root_number table))

  -- a step from rest by a key that leads nowhere commits the key's own text, and nothing is pending
  -- after it
  pub step_at_rest : None ≡ target_of table p k → p ≡ [] → (s : KeyStep) → s.cancels ≡ false → text_bytes s.text ≡ text names k → s.next.0 ≡ 0 → IsStep names table p k s
  step_at_rest h at s c t m = step_by passes (effect_of None h ∙ ap (λ u. cond (is_empty u) passes cancels) at) s c t (m ∙ sym (root_number table))

  -- a step by a key that leads nowhere from pending keysyms cancels, commits nothing, and leaves
  -- nothing pending
  pub step_breaks : None ≡ target_of table p k → is_empty p ≡ false → (s : KeyStep) → s.cancels ≡ true → text_bytes s.text ≡ [] → s.next.0 ≡ 0 → IsStep names table p k s
  step_breaks h at s c t m = step_by cancels (effect_of None h ∙ ap (λ b. cond b passes cancels) at) s c t (m ∙ sym (root_number table))

-- a leaf to which a key leads is one of the table
pub to_leaf_below : (table : List Definition) (p : List ℕ) (k : ℕ) (l : LeafId) → Some (Leaf l) ≡ target_of table p k → l.0 < length (leaves table)
to_leaf_below table p k l h = (subst (λ (y : Option Target). Leads table p k y) (sym h) (leads table p k)).in_range
