-- No keysym follows keysyms that are not a node.
use Rattle.std.proofs.Common.{◌≡◌, ℕ, List, [], ◌∷◌, ◌++◌, Bool, true, false, cond, filter, refl, Some, None}
use Rattle.compose_model.specs.Table.{Definition, is_sequence}
use Rattle.compose_model.specs.Nodes.{edges, has_edge, keysyms, is_node, number_of}
use Rattle.compose_tree.specs.declared.table.LeafId.{LeafId}
use Rattle.compose_tree.specs.declared.table.NodeId.{NodeId}
use Rattle.compose_tree.specs.declared.table.Target.TheVariants.{Node, Leaf}
use Rattle.compose_tree.specs.Targets.{target_of, leaf_number}
use Rattle.compose_state.specs.NodeIds.{node_id}
use Rattle.compose_state.proofs.PathNodes.{no_node, no_node_no_target}

none_pass : (f : ℕ → Bool) → ((k : ℕ) → f k ≡ false) → (ks : List ℕ) → filter f ks ≡ []
none_pass f h [] = refl
none_pass f h (k ∷ ks) = rw (h k) (none_pass f h ks)

no_target_no_edge : (table : List Definition) (p : List ℕ) (k : ℕ) → target_of table p k ≡ None → has_edge table p k ≡ false
no_target_no_edge table p k e = go (is_node table (p ++ k ∷ [])) (is_sequence table (p ++ k ∷ [])) refl refl e
  where
    node : NodeId
    node = record { 0 = number_of table (p ++ k ∷ []) }

    leaf : LeafId
    leaf = record { 0 = leaf_number table (p ++ k ∷ []) }

    go : (a b : Bool) → is_node table (p ++ k ∷ []) ≡ a → is_sequence table (p ++ k ∷ []) ≡ b → cond a (Some (Node node)) (cond b (Some (Leaf leaf)) None) ≡ None
        → has_edge table p k ≡ false
    go true b f g e = cc
    go false true f g e = cc
    go false false f g e = rw f (rw g refl)

pub no_edges : (table : List Definition) (p : List ℕ) → node_id table p ≡ None → edges table p ≡ []
no_edges table p e = none_pass (has_edge table p) (λ k. no_target_no_edge table p k (no_node_no_target table p k (no_node table p e))) (keysyms table)
