-- Nodes on the path along a list of keysyms.
use Rattle.std.proofs.Common.{◌≡◌, ℕ, ◌+◌, ◌<◌, ◌≤◌, List, [], ◌∷◌, ◌++◌, Bool, true, false, cond, length, take, drop, get_or, ◌≢◌, refl, sym, ◌∙◌, ap, subst, Option, Some, None, arith, leb-true}
use Rattle.std.specs.Prelude.{◌==◌, ◌&&◌, not, nat_lt, nat_le}
use Rattle.std.specs.List.{list_all}
use Rattle.std.proofs.lemmas.Bool.{and_parts, and_from}
use Rattle.keysym_core.specs.Keysym.{is_keysym, is_ignored}
use Rattle.compose_model.specs.Table.{Definition, same, is_proper_prefix, is_extended, is_table, is_definition}
use Rattle.std.proofs.lemmas.List.{take_more, take-append-drop}
use Rattle.std.proofs.Math.Seq.{take-length}
use Rattle.compose_model.specs.Nodes.{is_node, node, number_of, nodes}
use Rattle.compose_model.specs.Step.{pending}
use Rattle.compose_model.proofs.Reached.{node_reached}
use Rattle.compose_model.proofs.Tests.{list_any-weaker, both_at}
use Rattle.compose_model.proofs.NodeLemmas.{node_means, extended_is_node, root_is_node, root_number, number_below, node_at_number}
use Rattle.compose_tree.specs.declared.table.NodeId.{NodeId}
use Rattle.compose_tree.specs.declared.table.LeafId.{LeafId}
use Rattle.compose_tree.specs.declared.table.Target.{Target}
use Rattle.compose_tree.specs.declared.table.Target.TheVariants.{Node, Leaf}
use Rattle.compose_tree.specs.Targets.{target_of}
use Rattle.compose_state.specs.NodeIds.{node_id}
use Rattle.std.specs.Option.{option_map_or}
use Rattle.compose_tree.proofs.Steps.{Leads, leads, ToNode, ToLeaf}

-- ---- prefixes

shorter_prefix : (p w s : List ℕ) → is_proper_prefix (p ++ w) s ≡ true → is_proper_prefix p s ≡ true
shorter_prefix [] [] s h = h
shorter_prefix [] (j ∷ w) [] h = cc
shorter_prefix [] (j ∷ w) (x ∷ s) h = refl
shorter_prefix (j ∷ p) w [] h = cc
shorter_prefix (j ∷ p) w (x ∷ s) h =
    let parts = and_parts (j == x) (is_proper_prefix (p ++ w) s) h in
    and_from (j == x) (is_proper_prefix p s) parts.0 (shorter_prefix p w s parts.1)

begins_itself : (p s : List ℕ) (k : ℕ) → same (p ++ k ∷ []) s ≡ true → is_proper_prefix p s ≡ true
begins_itself [] [] k h = cc
begins_itself [] (x ∷ s) k h = refl
begins_itself (j ∷ p) [] k h = cc
begins_itself (j ∷ p) (x ∷ s) k h =
    let parts = and_parts (j == x) (same (p ++ k ∷ []) s) h in
    and_from (j == x) (is_proper_prefix p s) parts.0 (begins_itself p s k parts.1)

prefix_shorter : (p s : List ℕ) → is_proper_prefix p s ≡ true → length p < length s
prefix_shorter p [] h = cc
prefix_shorter [] (x ∷ s) h = omega arith
prefix_shorter (j ∷ p) (x ∷ s) h = let less : length p < length s = prefix_shorter p s (and_parts (j == x) (is_proper_prefix p s) h).1 in omega arith

-- ---- nodes

-- a prefix of a node is a node
pub node_prefix : (table : List Definition) (p w : List ℕ) → is_node table (p ++ w) ≡ true → is_node table p ≡ true
node_prefix table [] w h = root_is_node table
node_prefix table (j ∷ p) w h =
    extended_is_node table (j ∷ p)
    (list_any-weaker (λ (d : Definition). is_proper_prefix (j ∷ p ++ w) d.sequence) (λ d. is_proper_prefix (j ∷ p) d.sequence) (λ d. shorter_prefix (j ∷ p) w d.sequence) table
    (sym (node_means table (j ∷ p ++ w)) ∙ h))

-- a list that a sequence extends is shorter than 32 keysyms
pub extended_short : (table : List Definition) (p : List ℕ) → is_table table ≡ true → is_extended table p ≡ true → length p < 32
extended_short table p sound h =
    let d = both_at is_definition (λ (d : Definition). is_proper_prefix p d.sequence) table sound h in
    let long : length p < length d.0.sequence = prefix_shorter p d.0.sequence d.2 in
    let fits : nat_le (length d.0.sequence) 32 ≡ true =
    (and_parts (nat_lt 0 (length d.0.sequence)) (nat_le (length d.0.sequence) 32)
    (and_parts (nat_lt 0 (length d.0.sequence) && nat_le (length d.0.sequence) 32) (list_all (λ k. is_keysym k && not (is_ignored k)) d.0.sequence)
    (and_parts (nat_lt 0 (length d.0.sequence) && nat_le (length d.0.sequence) 32 && list_all (λ k. is_keysym k && not (is_ignored k)) d.0.sequence) (nat_le (length d.0.text) 255) d.1).0).0).1 in
    let few : length d.0.sequence ≤ 32 = leb-true (length d.0.sequence) 32 fits in
    omega arith

-- ---- targets along a list

-- a key whose target is a node leads to the list with one more keysym, which is that node
pub to_node : (table : List Definition) (p : List ℕ) (k : ℕ) (n : NodeId) → target_of table p k ≡ Some (Node n) → ToNode table p k n
to_node table p k n e = subst (Leads table p k) e (leads table p k)

-- a key whose target is a leaf completes the sequence of that leaf, and the leaf's text is the
-- sequence's
pub to_leaf : (table : List Definition) (p : List ℕ) (k : ℕ) (l : LeafId) → target_of table p k ≡ Some (Leaf l) → ToLeaf table p k l
to_leaf table p k l e = subst (Leads table p k) e (leads table p k)

-- after a list that is no node there is no target
pub no_node_no_target : (table : List Definition) (p : List ℕ) (k : ℕ) → is_node table p ≡ false → target_of table p k ≡ None
no_node_no_target table p k h = go (target_of table p k) refl (leads table p k)
  where
    go : (t : Option Target) → target_of table p k ≡ t → Leads table p k t → target_of table p k ≡ None
    go (Some (Node n)) e l = let clash : true ≡ false = sym (node_prefix table p (k ∷ []) l.is_node) ∙ h in cc
    go (Some (Leaf n)) e l =
        let extended : is_extended table p ≡ true =
        list_any-weaker (λ (d : Definition). same (p ++ k ∷ []) d.sequence) (λ d. is_proper_prefix p d.sequence) (λ d. begins_itself p d.sequence k) table l.sequence in
        let clash : true ≡ false = sym (extended_is_node table p extended) ∙ h in cc
    go None e l = e

-- ---- a walk along the keysyms

-- the first `count` keysyms are the node with this number
pub record IsAt (table : List Definition) (keys : List ℕ) (count number : ℕ) : Type 0 where
  pub is_node : is_node table (take count keys) ≡ true
  pub numbered : number_of table (take count keys) ≡ number

-- an empty list of keysyms is the root, whose number is 0
pub at_root : (table : List Definition) (keys : List ℕ) → IsAt table keys 0 0
at_root table keys = record { is_node = root_is_node table; numbered = root_number table }

-- the number of a node on the path is below the number of the table's nodes
pub at_in_range : (table : List Definition) (keys : List ℕ) (count number : ℕ) → IsAt table keys count number → number < length (nodes table)
at_in_range table keys count number at = subst (λ n. n < length (nodes table)) at.numbered (number_below table (take count keys) at.is_node)

at_prefix : (table : List Definition) (keys : List ℕ) (count number : ℕ) → IsAt table keys count number → node table number ≡ take count keys
at_prefix table keys count number at = ap (node table) (sym at.numbered) ∙ node_at_number table (take count keys) at.is_node

longer_by : (keys : List ℕ) (count k d : ℕ) → count < length keys → k ≡ get_or keys count d → take count keys ++ k ∷ [] ≡ take (count + 1) keys
longer_by keys count k d less is = ap (λ j. take count keys ++ j ∷ []) is ∙ sym (take_more keys count d less)

-- the node after the next keysym is one keysym further
pub at_next : (table : List Definition) (keys : List ℕ) (count number k d : ℕ) (next : NodeId) → IsAt table keys count number → count < length keys → k ≡ get_or keys count d
    → node_id table (node table number ++ k ∷ []) ≡ Some next → IsAt table keys (count + 1) next.0
at_next table keys count number k d next at less is e =
    go (is_node table (take (count + 1) keys)) refl (sym (ap (node_id table) (ap (λ p. p ++ k ∷ []) (at_prefix table keys count number at) ∙ longer_by keys count k d less is)) ∙ e)
  where
    go : (b : Bool) → is_node table (take (count + 1) keys) ≡ b → cond b (Some (let n : NodeId = record { 0 = number_of table (take (count + 1) keys) } in n)) None ≡ Some next
        → IsAt table keys (count + 1) next.0
    go true f e = record { is_node = f; numbered = some-number e }
      where
        some-number : Some (let n : NodeId = record { 0 = number_of table (take (count + 1) keys) } in n) ≡ Some next → number_of table (take (count + 1) keys) ≡ next.0
        some-number e = ap (λ o. option_map_or (λ (n : NodeId). n.0) o 0) e
    go false f e = cc

-- if no node follows the next keysym, the keysyms are no node
pub at_stop : (table : List Definition) (keys : List ℕ) (count number k d : ℕ) → IsAt table keys count number → count < length keys → k ≡ get_or keys count d
    → node_id table (node table number ++ k ∷ []) ≡ None → node_id table keys ≡ None
at_stop table keys count number k d at less is e =
    go (is_node table (take (count + 1) keys)) refl (is_node table keys) refl
    (sym (ap (node_id table) (ap (λ p. p ++ k ∷ []) (at_prefix table keys count number at) ∙ longer_by keys count k d less is)) ∙ e)
  where
    go : (a : Bool) → is_node table (take (count + 1) keys) ≡ a → (b : Bool) → is_node table keys ≡ b
        → cond a (Some (let n : NodeId = record { 0 = number_of table (take (count + 1) keys) } in n)) None ≡ None
        → cond b (Some (let n : NodeId = record { 0 = number_of table keys } in n)) None ≡ None
    go true f b g e = cc
    go false f false g e = refl
    go false f true g e =
        let cut : is_node table (take (count + 1) keys ++ drop (count + 1) keys) ≡ true = ap (is_node table) (take-append-drop (count + 1) keys) ∙ g in
        let clash : true ≡ false = sym (node_prefix table (take (count + 1) keys) (drop (count + 1) keys) cut) ∙ f in
        cc

pub at_end : (table : List Definition) (keys : List ℕ) (count number : ℕ) → IsAt table keys count number → count ≡ length keys → (n : NodeId) → n.0 ≡ number → node_id table keys ≡ Some n
at_end table keys count number at all n is =
    let whole : take count keys ≡ keys = ap (λ i. take i keys) all ∙ take-length keys in
    let found : is_node table keys ≡ true = ap (is_node table) (sym whole) ∙ at.is_node in
    let numbered : number_of table keys ≡ n.0 = ap (number_of table) (sym whole) ∙ at.numbered ∙ sym is in
    rw found (ap (λ i. Some (let m : NodeId = record { 0 = i } in m)) numbered)

-- typing a node leaves it pending
pub typed_again : (table : List Definition) (keys : List ℕ) (count number : ℕ) → is_table table ≡ true → IsAt table keys count number → count ≡ length keys → pending table keys ≡ keys
typed_again table keys count number sound at all =
    let whole : take count keys ≡ keys = ap (λ i. take i keys) all ∙ take-length keys in
    (node_reached table keys sound (ap (is_node table) (sym whole) ∙ at.is_node)).again

-- ---- the node after a keysym

pub child_of : (table : List Definition) (p : List ℕ) (k : ℕ) (n : NodeId) → target_of table p k ≡ Some (Node n) → node_id table (p ++ k ∷ []) ≡ Some n
child_of table p k n e =
    let there : ToNode table p k n = to_node table p k n e in
    rw there.is_node (ap (λ i. Some (let m : NodeId = record { 0 = i } in m)) there.number)

pub no_child : (table : List Definition) (p : List ℕ) (k : ℕ) (t : Option Target) → target_of table p k ≡ t → ((n : NodeId) → t ≢ Some (Node n)) → node_id table (p ++ k ∷ []) ≡ None
no_child table p k t e not_node = go (is_node table (p ++ k ∷ [])) refl
  where
    go : (b : Bool) → is_node table (p ++ k ∷ []) ≡ b → cond b (Some (let n : NodeId = record { 0 = number_of table (p ++ k ∷ []) } in n)) None ≡ None
    go true f = absurd (not_node (record { 0 = number_of table (p ++ k ∷ []) }) (sym e ∙ rw f refl))
    go false f = refl

-- ---- the node of a list

pub record IsNode (table : List Definition) (p : List ℕ) (n : NodeId) : Type 0 where
  pub is : node table n.0 ≡ p
  pub in_range : n.0 < length (nodes table)

-- the list with this node's number is that node, and the number is below the number of nodes
pub node_found : (table : List Definition) (p : List ℕ) (n : NodeId) → node_id table p ≡ Some n → IsNode table p n
node_found table p n e = go (is_node table p) refl e
  where
    go : (b : Bool) → is_node table p ≡ b → cond b (Some (let n : NodeId = record { 0 = number_of table p } in n)) None ≡ Some n → IsNode table p n
    go true f e =
        let same_number : number_of table p ≡ n.0 = ap (λ o. option_map_or (λ (n : NodeId). n.0) o 0) e in
        record { is = ap (node table) (sym same_number) ∙ node_at_number table p f; in_range = subst (λ i. i < length (nodes table)) same_number (number_below table p f) }
    go false f e = cc

-- a list without the number of a node is no node
pub no_node : (table : List Definition) (p : List ℕ) → node_id table p ≡ None → is_node table p ≡ false
no_node table p e = go (is_node table p) refl e
  where
    go : (b : Bool) → is_node table p ≡ b → cond b (Some (let n : NodeId = record { 0 = number_of table p } in n)) None ≡ None → is_node table p ≡ false
    go true f e = cc
    go false f e = f
