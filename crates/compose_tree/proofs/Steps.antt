-- The target of a key determines the step there: the crates above know a table by its targets, and
-- the model by its effects.
use Rattle.std.proofs.Common.{◌≡◌, ℕ, ◌<◌, List, [], ◌∷◌, ◌++◌, Bool, true, false, cond, ◌||◌, length, map, refl, sym, ◌∙◌, ap, Option, Some, None, nat_cmp}
use Rattle.std.specs.List.{list_any}
use Rattle.std.specs.Cmp.Lexicographic.{slice_cmp}
use Rattle.std.proofs.lemmas.Bool.{or_left, or_right}
use Rattle.std.proofs.lemmas.Map.Lookups.{exact_bytes}
use Rattle.keysym_core.specs.Keysym.{is_ignored}
use Rattle.compose_model.specs.Table.{Definition, same, is_sequence, is_extended, is_table, text_at}
use Rattle.compose_model.specs.Step.{Effect, extends, completes, passes, cancels, effect, is_empty}
use Rattle.compose_model.specs.Nodes.{nodes, leaves, is_node, number_of, has_edge}
use Rattle.compose_model.proofs.Tests.{list_any-map, list_any-rising}
use Rattle.compose_model.proofs.Steps.{effect_is}
use Rattle.compose_model.proofs.NodeLemmas.{node_means, never_empty, number_below, found_at, found_below}
use Rattle.compose_model.proofs.Exact.{edge_fed}
use Rattle.compose_tree.specs.declared.table.NodeId.{NodeId}
use Rattle.compose_tree.specs.declared.table.LeafId.{LeafId}
use Rattle.compose_tree.specs.declared.table.Target.{Target}
use Rattle.compose_tree.specs.declared.table.Target.TheVariants.{Node, Leaf}
use Rattle.compose_tree.specs.Targets.{target_of, leaf_number, leaf_text}

-- ---- leaves

-- the leaves are the sequences
pub leaf_means : (table : List Definition) (s : List ℕ) → list_any (same s) (leaves table) ≡ is_sequence table s
leaf_means table s = list_any-rising (slice_cmp nat_cmp) exact_bytes (same s) (map (λ d. d.sequence) table) ∙ list_any-map (same s) (λ (d : Definition). d.sequence) table

-- the number of a sequence's leaf is below the number of leaves
pub leaf_below : (table : List Definition) (s : List ℕ) → is_sequence table s ≡ true → leaf_number table s < length (leaves table)
leaf_below table s h = found_below s (leaves table) (leaf_means table s ∙ h)

-- the text of the leaf with a sequence's number is that of the sequence
pub text_of_leaf : (table : List Definition) (s : List ℕ) → is_sequence table s ≡ true → leaf_text table (leaf_number table s) ≡ text_at table s
text_of_leaf table s h = ap (text_at table) (found_at s (leaves table) (leaf_means table s ∙ h))

-- ---- targets

-- there is a node after a key exactly if a sequence goes on
pub goes_on : (table : List Definition) (p : List ℕ) (k : ℕ) → is_node table (p ++ k ∷ []) ≡ is_extended table (p ++ k ∷ [])
goes_on table p k = node_means table (p ++ k ∷ []) ∙ ap (λ b. b || is_extended table (p ++ k ∷ [])) (never_empty p k)

-- this node comes after the key
pub record ToNode (table : List Definition) (p : List ℕ) (k : ℕ) (node : NodeId) : Type 0 where
  pub extended : is_extended table (p ++ k ∷ []) ≡ true
  pub is_node : is_node table (p ++ k ∷ []) ≡ true
  pub number : number_of table (p ++ k ∷ []) ≡ node.0
  pub in_range : node.0 < length (nodes table)

-- this leaf comes after the key, and no sequence goes on
pub record ToLeaf (table : List Definition) (p : List ℕ) (k : ℕ) (leaf : LeafId) : Type 0 where
  pub extended : is_extended table (p ++ k ∷ []) ≡ false
  pub sequence : is_sequence table (p ++ k ∷ []) ≡ true
  pub number : leaf_number table (p ++ k ∷ []) ≡ leaf.0
  pub in_range : leaf.0 < length (leaves table)
  pub text : leaf_text table leaf.0 ≡ text_at table (p ++ k ∷ [])

-- neither a node nor a leaf comes after the key
pub record Nowhere (table : List Definition) (p : List ℕ) (k : ℕ) : Type 0 where
  pub extended : is_extended table (p ++ k ∷ []) ≡ false
  pub sequence : is_sequence table (p ++ k ∷ []) ≡ false

-- the meaning of the target of the key k if p is pending
abbrev pub Leads : List Definition → List ℕ → ℕ → Option Target → Type 0
Leads table p k (Some (Node n)) = ToNode table p k n
Leads table p k (Some (Leaf l)) = ToLeaf table p k l
Leads table p k None = Nowhere table p k

-- the target of a key determines what follows it
pub leads : (table : List Definition) (p : List ℕ) (k : ℕ) → Leads table p k (target_of table p k)
leads table p k = go (is_node table (p ++ k ∷ [])) (is_sequence table (p ++ k ∷ [])) refl refl
  where
    node : NodeId
    node = record { 0 = number_of table (p ++ k ∷ []) }

    leaf : LeafId
    leaf = record { 0 = leaf_number table (p ++ k ∷ []) }

    go : (a b : Bool) → is_node table (p ++ k ∷ []) ≡ a → is_sequence table (p ++ k ∷ []) ≡ b → Leads table p k (cond a (Some (Node node)) (cond b (Some (Leaf leaf)) None))
    go true b e f = record { extended = sym (goes_on table p k) ∙ e; is_node = e; number = refl; in_range = number_below table (p ++ k ∷ []) e }
    go false true e f = record {
      extended = sym (goes_on table p k) ∙ e;
      sequence = f;
      number = refl;
      in_range = leaf_below table (p ++ k ∷ []) f;
      text = text_of_leaf table (p ++ k ∷ []) f;
    }
    go false false e f = record { extended = sym (goes_on table p k) ∙ e; sequence = f }

-- ---- effects

-- the effect of a key with this target that is not ignored; the flag is true if nothing is pending
abbrev pub effect_at : Bool → Option Target → Effect
effect_at nothing_pending (Some (Node n)) = extends
effect_at nothing_pending (Some (Leaf l)) = completes
effect_at nothing_pending None = cond nothing_pending passes cancels

-- the effect of a key that isn't ignored depends only on its target and on whether anything is
-- pending
pub effect_by_target : (table : List Definition) (p : List ℕ) (k : ℕ) → is_ignored k ≡ false → effect table p k ≡ effect_at (is_empty p) (target_of table p k)
effect_by_target table p k fed = go (target_of table p k) (leads table p k)
  where
    go : (t : Option Target) → Leads table p k t → effect table p k ≡ effect_at (is_empty p) t
    go (Some (Node n)) l = effect_is table p k false true (is_sequence table (p ++ k ∷ [])) (is_empty p) fed l.extended refl refl
    go (Some (Leaf n)) l = effect_is table p k false false true (is_empty p) fed l.extended l.sequence refl
    go None l = effect_is table p k false false false (is_empty p) fed l.extended l.sequence refl

-- ---- edges

-- a key has an edge exactly if it has a target
pub edge_target : (table : List Definition) (p : List ℕ) (k : ℕ) (t : Target) → target_of table p k ≡ Some t → has_edge table p k ≡ true
edge_target table p k t e = go (is_node table (p ++ k ∷ [])) (is_sequence table (p ++ k ∷ [])) refl refl
  where
    go : (a b : Bool) → is_node table (p ++ k ∷ []) ≡ a → is_sequence table (p ++ k ∷ []) ≡ b → has_edge table p k ≡ true
    go true b f g = or_left (is_node table (p ++ k ∷ [])) (is_sequence table (p ++ k ∷ [])) f
    go false true f g = or_right (is_node table (p ++ k ∷ [])) (is_sequence table (p ++ k ∷ [])) g
    go false false f g = let clash : None ≡ Some t = sym (rw (f, g) refl) ∙ e in cc

-- no ignored key has an edge
pub target_fed : (table : List Definition) (p : List ℕ) (k : ℕ) (t : Target) → is_table table ≡ true → target_of table p k ≡ Some t → is_ignored k ≡ false
target_fed table p k t sound e = edge_fed table p k sound (edge_target table p k t e)
