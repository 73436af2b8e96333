-- The keysyms that begin sequences, by their targets from the root.
use Rattle.std.proofs.Common.{◌≡◌, ℕ, ◌<◌, List, [], ◌∷◌, ◌++◌, Bool, true, false, cond, ◌&&◌, ◌||◌, length, refl, sym, ◌∙◌, ap, subst, arith, inl, inr}
use Rattle.std.specs.Prelude.{Some, None, is_some}
use Rattle.std.specs.Option.{option_map_or}
use Rattle.std.proofs.lemmas.Bool.{and_left, cases_Bool}
use Rattle.keysym_core.specs.Names.{KeysymNames, text}
use Rattle.compose_model.specs.Table.{Definition, same, is_sequence, text_at, is_prefix_free}
use Rattle.compose_model.specs.Nodes.{nodes, is_node, has_edge}
use Rattle.compose_model.specs.Certificate.{types_itself}
use Rattle.compose_model.proofs.NodeLemmas.{root_is_node, root_number, number_below}
use Rattle.compose_model.proofs.Lift.{not_extended}
use Rattle.compose_tree.specs.declared.table.NodeId.{NodeId}
use Rattle.compose_tree.specs.declared.table.LeafId.{LeafId}
use Rattle.compose_tree.specs.declared.table.Target.{Target}
use Rattle.compose_tree.specs.declared.table.Target.TheVariants.{Node, Leaf}
use Rattle.compose_tree.specs.Targets.{target_of, leaf_text}
use Rattle.compose_tree.proofs.Steps.{Leads, leads, ToNode, ToLeaf}

-- every table has a root
pub has_root : (table : List Definition) → 0 < length (nodes table)
has_root table = omega (arith, number_below table [] (root_is_node table), root_number table)

-- a keysym begins a sequence exactly if it leads somewhere
pub begins_somewhere : (table : List Definition) (p : List ℕ) (k : ℕ) → is_some (target_of table p k) ≡ has_edge table p k
begins_somewhere table p k = go (is_node table (p ++ k ∷ [])) (is_sequence table (p ++ k ∷ [])) _ _
  where
    go : (a b : Bool) (t u : Target) → is_some (cond a (Some t) (cond b (Some u) None)) ≡ a || b
    go true b t u = refl
    go false true t u = refl
    go false false t u = refl

module _ (names : KeysymNames) (new : List Definition) (k : ℕ) where
  -- a keysym that leads to a node is no whole sequence
  pub node_types_not : (n : NodeId) → is_prefix_free new ≡ true → target_of new [] k ≡ Some (Node n) → false ≡ types_itself names new k
  node_types_not n free to = sym (and_left (is_sequence new (k ∷ [])) (option_map_or (same (text names k)) (text_at new (k ∷ [])) false) (none leads_to))
    where
      leads_to : ToNode new [] k n
      leads_to = subst (Leads new [] k) to (leads new [] k)

      none : ToNode new [] k n → is_sequence new (k ∷ []) ≡ false
      none l = elim (cases_Bool (is_sequence new (k ∷ []))) [
        | inl e ↦ absurd (let clash : true ≡ false = sym l.extended ∙ not_extended new (k ∷ []) free e in cc)
        | inr e ↦ e
      ]

  -- a keysym that leads to a leaf is a whole sequence, and commits the leaf's text
  pub leaf_types : (l : LeafId) (t : List ℕ) → target_of new [] k ≡ Some (Leaf l) → leaf_text new l.0 ≡ Some t → same (text names k) t ≡ types_itself names new k
  leaf_types l t to read =
      sym (ap (λ b. b && option_map_or (same (text names k)) (text_at new (k ∷ [])) false) leads_to.sequence ∙ ap (λ o. option_map_or (same (text names k)) o false) (sym leads_to.text ∙ read))
    where
      leads_to : ToLeaf new [] k l
      leads_to = subst (Leads new [] k) to (leads new [] k)
