-- What one edge of an old node changes.
use Rattle.std.proofs.Common.{◌≡◌, ℕ, zero, suc, ◌+◌, ◌<◌, List, [], ◌∷◌, ◌++◌, true, false, cond, not, ◌&&◌, length, set, map, take, refl, sym, ◌∙◌, ap, subst, arith, append-nil, add-one, Option, Some}
use Rattle.std.specs.Prelude.{is_some, slice_get}
use Rattle.std.specs.List.{filter}
use Rattle.std.proofs.lemmas.List.{length-map}
use Rattle.keysym_core.specs.Names.{KeysymNames}
use Rattle.compose_model.specs.Table.{Definition, is_extended, is_table}
use Rattle.compose_model.specs.Step.{pending, pending_after}
use Rattle.compose_model.specs.Nodes.{nodes, is_node, node, number_of, edges}
use Rattle.compose_tree.specs.declared.table.NodeId.{NodeId}
use Rattle.compose_tree.specs.declared.table.Target.{Target}
use Rattle.compose_tree.specs.declared.table.Target.TheVariants.{Node, Leaf}
use Rattle.compose_tree.specs.Targets.{target_of}
use Rattle.compose_tree.proofs.Steps.{Leads, leads, goes_on}
use Rattle.compose_walk.specs.Pass.{agrees, differs_at}
use Rattle.compose_walk.specs.Steps.{IsStep, difference_of}
use Rattle.compose_walk.specs.Stands.{partners_at, found_at}
use Rattle.compose_walk.specs.declared.pass.Partner.{Partner}
use Rattle.compose_walk.specs.declared.pass.Found.{Found}
use Rattle.compose_walk.specs.declared.step.KeyStep.{KeyStep}
use Rattle.compose_walk.proofs.NodeNumbers.{number_at_node, node_is_node}
use Rattle.compose_walk.proofs.Standing.{differs_alike, agrees_push, kept_edge, written_edge}

-- one element more of a list
pub taken_more : {X : Type 0} (xs : List X) (i : ℕ) (x : X) → slice_get xs i ≡ Some x → take (i + 1) xs ≡ take i xs ++ x ∷ []
taken_more [] i x h = cc
taken_more (y ∷ ys) zero x h = let is : y ≡ x = cc in ap (λ z. z ∷ []) is
taken_more (y ∷ ys) (suc i) x h = rw add-one (ap (λ zs. y ∷ zs) (sym (rw add-one at (sym (taken_more ys i x h)))))

module _ (names : KeysymNames) (old new : List Definition) (sound : is_table old ≡ true) (i j index k : ℕ) (t : Target)
    (in_range : i < length (nodes old)) (new_in_range : j < length (nodes new)) (at : slice_get (edges old (node old i)) index ≡ Some k) (to : target_of old (node old i) k ≡ Some t)
    (agree : agrees names old new (node old i) ≡ true) (together : node new j ≡ pending new (node old i)) (before : List (Option Partner))
    (stood : before ≡ partners_at names old new i (take index (edges old (node old i))))
    (a b : KeyStep) (old_step : IsStep names old (node old i) k a) (new_step : IsStep names new (node new j) k b) where
  here : is_node old (node old i) ≡ true
  here = node_is_node old i in_range

  leads_on : Leads old (node old i) k (Some t)
  leads_on = subst (λ (y : Option Target). Leads old (node old i) k y) to (leads old (node old i) k)

  differ : is_some (difference_of a b) ≡ differs_at names old new (node old i) k
  differ = differs_alike names old new (node old i) (node new j) k a b here (node_is_node new j new_in_range) together old_step new_step

  unwritten : (is_node old (node old i ++ k ∷ []) ≡ true → agrees names old new (node old i ++ k ∷ []) ≡ false) → before ≡ partners_at names old new i (take (index + 1) (edges old (node old i)))
  unwritten dark =
      stood ∙ kept_edge names old new sound (node old i) i (take index (edges old (node old i))) k here (number_at_node old i in_range) dark
      ∙ ap (partners_at names old new i) (sym (taken_more (edges old (node old i)) index k at))

  -- if the tables differ at the edge, nothing is written
  pub partners_if_differs : is_some (difference_of a b) ≡ true → before ≡ partners_at names old new i (take (index + 1) (edges old (node old i)))
  partners_if_differs d = unwritten (λ _. agrees_push names old new sound (node old i) k here ∙ ap (λ c. c && not (differs_at names old new (node old i) k)) agree ∙ ap not (sym differ ∙ d))

  -- nothing is written either if it leads to a leaf
  pub partners_at_leaf : ((n : NodeId) → t ≡ Node n → ⊥) → before ≡ partners_at names old new i (take (index + 1) (edges old (node old i)))
  partners_at_leaf other = go t refl leads_on
    where
      go : (u : Target) → t ≡ u → Leads old (node old i) k (Some u) → before ≡ partners_at names old new i (take (index + 1) (edges old (node old i)))
      go (Node n) e l = absurd (other n e)
      go (Leaf n) e l = unwritten (λ h. absurd (let clash : true ≡ false = sym h ∙ no_node l.extended in cc))
        where
          no_node : is_extended old (node old i ++ k ∷ []) ≡ false → is_node old (node old i ++ k ∷ []) ≡ false
          no_node h = goes_on old (node old i) k ∙ h

  to_node : (n : NodeId) → t ≡ Node n → Leads old (node old i) k (Some (Node n))
  to_node n e = subst (λ (y : Target). Leads old (node old i) k (Some y)) e leads_on

  -- the number of the node to which the edge leads is below the number of stored partners
  pub child_below : (n : NodeId) → t ≡ Node n → n.0 < length before
  child_below n e = let l : n.0 < length (nodes old) = (to_node n e).in_range in let s : length before ≡ length (nodes old) = ap length stood ∙ length-map (nodes old) _ in omega arith

  -- if it leads to a node, and the tables agree, the node's partner is written
  pub partners_at_child : (n : NodeId) (s : Partner) → t ≡ Node n → is_some (difference_of a b) ≡ false → s.new_node.0 ≡ b.next.0 → s.parent.0 ≡ i → s.keysym ≡ k
      → set before n.0 (Some s) ≡ partners_at names old new i (take (index + 1) (edges old (node old i)))
  partners_at_child n s e d en ep ek =
      ap (λ m. set before m (Some s)) (sym (to_node n e).number)
      ∙ ap (λ xs. set xs (number_of old (node old i ++ k ∷ [])) (Some s)) stood
      ∙ written_edge names old new sound (node old i) i (take index (edges old (node old i))) k s here (number_at_node old i in_range) (to_node n e).is_node agree (sym differ ∙ d)
      (en ∙ new_step.next ∙ ap (λ v. number_of new (pending_after new v k)) together) ep ek
      ∙ ap (partners_at names old new i) (sym (taken_more (edges old (node old i)) index k at))

  same_key : (m : ℕ) → slice_get (edges old (node old i)) index ≡ Some m → k ≡ m
  same_key m h = let e : Some k ≡ Some m = sym at ∙ h in cc

  -- the key is found if the tables differ, and not if they agree
  pub found_if_differs : is_some (difference_of a b) ≡ true → (xs : List Found) (f : Found) → f.depth ≡ length (node old i) → f.node ≡ i → f.keysym ≡ k → (m : ℕ)
      → slice_get (edges old (node old i)) index ≡ Some m
      → xs ++ f ∷ [] ≡ xs ++ map (found_at old (node old i)) (filter (differs_at names old new (node old i)) (m ∷ []))
  found_if_differs d xs f ed en ek m h =
      ap (λ g. xs ++ g ∷ []) is_found
      ∙ ap (λ c. xs ++ map (found_at old (node old i)) (cond c (k ∷ []) [])) (sym (sym differ ∙ d))
      ∙ ap (λ y. xs ++ map (found_at old (node old i)) (filter (differs_at names old new (node old i)) (y ∷ []))) (same_key m h)
    where
      is_found : f ≡ found_at old (node old i) k
      is_found z = record { depth = ed z; node = (en ∙ sym (number_at_node old i in_range)) z; keysym = ek z }

  -- if the steps agree at the edge, it adds nothing to what is found
  pub found_unless_differs : is_some (difference_of a b) ≡ false → (xs : List Found) (m : ℕ) → slice_get (edges old (node old i)) index ≡ Some m
      → xs ≡ xs ++ map (found_at old (node old i)) (filter (differs_at names old new (node old i)) (m ∷ []))
  found_unless_differs d xs m h =
      sym (append-nil xs) ∙ ap (λ c. xs ++ map (found_at old (node old i)) (cond c (k ∷ []) [])) (sym (sym differ ∙ d))
      ∙ ap (λ y. xs ++ map (found_at old (node old i)) (filter (differs_at names old new (node old i)) (y ∷ []))) (same_key m h)
