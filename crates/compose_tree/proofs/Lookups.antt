-- What the rows of a settled table determine about its nodes, edges and leaves.
use Rattle.std.proofs.Common.{◌≡◌, ℕ, zero, suc, ◌<◌, ◌≤◌, List, [], ◌∷◌, ◌++◌, Bool, true, false, cond, not, ◌&&◌, ◌||◌, ◌⊎◌, length, map, get_or, refl, sym, ◌∙◌, ap, arith, inl, inr, eqb-true, eq-eqb, nat_cmp, leb-true}
use Rattle.std.specs.Prelude.{◌==◌, nat_eq, Option, Some, None, is_some, option_map, slice_get}
use Rattle.std.specs.Option.{option_or}
use Rattle.std.specs.List.{list_any, find}
use Rattle.std.specs.Cmp.Lexicographic.{slice_cmp}
use Rattle.std.proofs.lemmas.Cmp.{nat_list_cmp_total}
use Rattle.std.proofs.lemmas.Bool.{and_parts, or_cases, cases_Bool}
use Rattle.std.proofs.lemmas.List.{get_or-map, length-map}
use Rattle.std.proofs.lemmas.Option.{slice_get-get_or}
use Rattle.std.proofs.lemmas.List.Elements.{All-from_recursion}
use Rattle.std.proofs.lemmas.Map.Keys.{any_passes_from_place}
use Rattle.std.proofs.lemmas.Map.Views.{length-le_from_below}
use Rattle.keysym_core.specs.Keysym.{is_keysym, is_ignored}
use Rattle.compose_model.specs.Table.{Definition, same, is_proper_prefix, is_sequence, is_extended, text_at, is_table, is_definition}
use Rattle.compose_model.specs.Nodes.{nodes, leaves, is_node, node, number_of, has_edge, edges}
use Rattle.compose_model.proofs.Definitions.{sequence_few, sequence_fed, text_few, definition_at}
use Rattle.compose_model.proofs.Tests.{both_at}
use Rattle.compose_model.proofs.NodeLemmas.{same_is, same_from, node_means, root_first, keysyms_are, edge_key, listed_edge}
use Rattle.compose_model.proofs.Exact.{sequence_text}
use Rattle.compose_read.specs.Settle.{sequences_rise, IsSettled}
use Rattle.compose_tree.specs.declared.edge.Edge.{Edge}
use Rattle.compose_tree.specs.declared.table.Target.{Target}
use Rattle.compose_tree.specs.declared.table.Target.TheVariants.{Node, Leaf}
use Rattle.compose_tree.specs.Targets.{target_of, leaf_number, leaf_text}
use Rattle.compose_tree.specs.Rows.{NodeRow, where_to, edge_of, row_of, rows_of, keysyms_of}
use Rattle.compose_tree.proofs.Prefixes.{Before, not_before_itself, all_found_keys}
use Rattle.compose_tree.proofs.OneMore.{edges_sorted, edge_is_listed}
use Rattle.compose_tree.proofs.NextIn.{head_before, tail_rises}
use Rattle.compose_tree.proofs.Adding.{leaves_are}

-- ---- nodes

-- a number below the number of nodes is that of a node
pub node_listed : (table : List Definition) (i : ℕ) → i < length (nodes table) → is_node table (node table i) ≡ true
node_listed table i h = any_passes_from_place (same (node table i)) (nodes table) i (node table i) (slice_get-get_or (nodes table) i [] h) (same_from (node table i) (node table i) refl)

shorter : (p s : List ℕ) → is_proper_prefix p s ≡ true → length p < length s
shorter p [] h = cc
shorter [] (k ∷ s) h = omega arith
shorter (j ∷ p) (k ∷ s) h = let l = shorter p s (and_parts (j == k) (is_proper_prefix p s) h).1 in omega arith

-- a node has at most 31 keysyms
pub node_few : (table : List Definition) (p : List ℕ) → is_table table ≡ true → is_node table p ≡ true → length p ≤ 31
node_few table p t h = elim (or_cases (same p []) (is_extended table p) (sym (node_means table p) ∙ h)) [
  | inl e ↦ (let n : length p ≡ 0 = ap length (same_is p [] e) in omega arith)
  | inr e ↦ (let d = both_at is_definition (λ (d : Definition). is_proper_prefix p d.sequence) table t e in
      let l = shorter p d.0.sequence d.2 in
      let m = sequence_few d.0 d.1 in omega arith)
]

-- a table has at least one node
pub some_node : (table : List Definition) → 1 ≤ length (nodes table)
some_node table = let r = root_first table in let n : length (nodes table) ≡ length ([] ∷ r.0) = ap length r.1 in omega arith

-- the row at a node's number is the node's
pub row_found : (table : List Definition) (rows : List NodeRow) (i : ℕ) (row : NodeRow) → rows ≡ rows_of table → i < length (nodes table) → row ≡ get_or rows i row → row ≡ row_of table (node table i)
row_found table rows i row e h at = at ∙ ap (λ rs. get_or rs i row) e ∙ get_or-map (row_of table) (nodes table) i [] row h

-- ---- edges

lead_by : {X : Type 0} (a b : Bool) (n l : X) → cond a (Some n) (cond b (Some l) None) ≡ cond (a || b) (Some (cond a n l)) None
lead_by true b n l = refl
lead_by false true n l = refl
lead_by false false n l = refl

-- an edge leads to the node or leaf after it
pub target_is : (table : List Definition) (p : List ℕ) (k : ℕ) → target_of table p k ≡ cond (has_edge table p k) (Some (where_to table (p ++ k ∷ []))) None
target_is table p k =
    lead_by (is_node table (p ++ k ∷ [])) (is_sequence table (p ++ k ∷ [])) (Node (record { 0 = number_of table (p ++ k ∷ []) })) (Leaf (record { 0 = leaf_number table (p ++ k ∷ []) }))

-- the target of an edge is the node or the leaf after it
pub target_at_edge : (table : List Definition) (p : List ℕ) (k : ℕ) → has_edge table p k ≡ true → target_of table p k ≡ Some (where_to table (p ++ k ∷ []))
target_at_edge table p k h = target_is table p k ∙ ap (λ b. cond {A = Option Target} b (Some (where_to table (p ++ k ∷ []))) None) h

-- the edge at an index leads where its keysym does
pub target_found : (table : List Definition) (p : List ℕ) (i : ℕ) (edge : Edge) → i < length (edges table p) → edge ≡ get_or (map (edge_of table p) (edges table p)) i edge
    → target_of table p edge.keysym ≡ Some edge.target
target_found table p i edge h at =
    let k = get_or (edges table p) i 0 in
    let is : edge ≡ edge_of table p k = at ∙ get_or-map (edge_of table p) (edges table p) i 0 edge h in
    let listed = any_passes_from_place (λ j. k == j) (edges table p) i k (slice_get-get_or (edges table p) i 0 h) (eq-eqb k k refl) in
    ap (λ (e : Edge). target_of table p e.keysym) is ∙ target_at_edge table p k (listed_edge table p k listed) ∙ ap (λ (e : Edge). Some e.target) (sym is)

index_in : (k : ℕ) (ks : List ℕ) → list_any (λ j. k == j) ks ≡ true → (m : ℕ) × (m < length ks) × (get_or ks m 0 ≡ k)
index_in k [] h = cc
index_in k (j ∷ ks) h = elim (or_cases (k == j) (list_any (λ i. k == i) ks) h) [
  | inl e ↦ (0, omega arith, sym (eqb-true k j e))
  | inr e ↦ (let q = index_in k ks e in (suc q.0, (let l = q.1 in omega arith), q.2))
]

-- if none of a node's keysyms is this one, it leads nowhere
pub leads_nowhere : (table : List Definition) (p : List ℕ) (k : ℕ) (keys : List ℕ) → keys ≡ edges table p → ((m : ℕ) → m < length keys → get_or keys m 0 ≡ k → ⊥) → None ≡ target_of table p k
leads_nowhere table p k keys are none = sym (target_is table p k ∙ ap (λ b. cond {A = Option Target} b (Some (where_to table (p ++ k ∷ []))) None) (no_edge (cases_Bool (has_edge table p k))))
  where
    no_edge : (has_edge table p k ≡ true) ⊎ (has_edge table p k ≡ false) → has_edge table p k ≡ false
    no_edge (inl f) =
        let q = index_in k (edges table p) (edge_is_listed table p k ∙ f) in
        let n : length keys ≡ length (edges table p) = ap length are in
        let l = q.1 in
        absurd (none q.0 (omega arith) (ap (λ ks. get_or ks q.0 0) are ∙ q.2))
    no_edge (inr f) = f

-- a keysym that is read among those of a node is there
pub key_read : (ks keys : List ℕ) (k i : ℕ) → keys ≡ ks → i < length keys → get_or keys i 0 ≡ k → (i < length ks) × (slice_get ks i ≡ Some k)
key_read ks keys k i are h is =
    let n : length keys ≡ length ks = ap length are in
    let within : i < length ks = omega arith in
    (within, slice_get-get_or ks i 0 within ∙ ap (λ j. Some j) (ap (λ x. get_or x i 0) (sym are) ∙ is))

edge_keysyms : (table : List Definition) (p ks : List ℕ) → keysyms_of (map (edge_of table p) ks) ≡ ks
edge_keysyms table p [] = refl
edge_keysyms table p (k ∷ ks) = ap (λ z. k ∷ z) (edge_keysyms table p ks)

scanned_keysyms : (table : List Definition) (p : List ℕ) (es : List Edge) → es ≡ map (edge_of table p) (edges table p) → keysyms_of es ≡ edges table p
scanned_keysyms table p es e = ap keysyms_of e ∙ edge_keysyms table p (edges table p)

-- a list of edges and that of their keysyms agree at each index
pub keysym_at : (es : List Edge) (i : ℕ) (e : Edge) → i < length es → e ≡ get_or es i e → get_or (keysyms_of es) i 0 ≡ e.keysym
keysym_at es i e h at = get_or-map (λ (e : Edge). e.keysym) es i e 0 h ∙ ap (λ (e : Edge). e.keysym) (sym at)

keysyms_counted : (es : List Edge) → length (keysyms_of es) ≡ length es
keysyms_counted es = length-map es (λ (e : Edge). e.keysym)

-- if no edge of a node has this keysym, it leads nowhere
pub scan_none : (table : List Definition) (p : List ℕ) (k : ℕ) (es : List Edge) → es ≡ map (edge_of table p) (edges table p) → ((m : ℕ) → m < length es → get_or (keysyms_of es) m 0 ≡ k → ⊥)
    → None ≡ target_of table p k
scan_none table p k es e none =
    let n = keysyms_counted es in
    leads_nowhere table p k (keysyms_of es) (scanned_keysyms table p es e) (λ m h. none m (omega arith))

-- a keysym found at an index among a node's edges is the edge of that index
pub scan_found : (table : List Definition) (p : List ℕ) (k i : ℕ) (es : List Edge) → es ≡ map (edge_of table p) (edges table p) → i < length es → get_or (keysyms_of es) i 0 ≡ k
    → (i < length (edges table p)) × (slice_get (edges table p) i ≡ Some k)
scan_found table p k i es e h is =
    let n = keysyms_counted es in
    key_read (edges table p) (keysyms_of es) k i (scanned_keysyms table p es e) (omega arith) is

flipped : (j k : ℕ) → (k == j) ≡ false → nat_eq j k ≡ false
flipped j k h = elim (cases_Bool (nat_eq j k)) [
  | inl e ↦ (let is : j ≡ k = eqb-true j k e in let f : true ≡ false = sym (eq-eqb k j (sym is)) ∙ h in cc)
  | inr e ↦ e
]

scanned : (table : List Definition) (p : List ℕ) (k : ℕ) (ks : List ℕ)
    → option_map (λ (e : Edge). e.target) (find (λ (e : Edge). nat_eq e.keysym k) (map (edge_of table p) ks)) ≡ cond (list_any (λ j. k == j) ks) (Some (where_to table (p ++ k ∷ []))) None
scanned table p k [] = refl
scanned table p k (j ∷ ks) = go (k == j) refl (scanned table p k ks)
  where
    go : (b : Bool) → (k == j) ≡ b
        → option_map (λ (e : Edge). e.target) (find (λ (e : Edge). nat_eq e.keysym k) (map (edge_of table p) ks)) ≡ cond (list_any (λ i. k == i) ks) (Some (where_to table (p ++ k ∷ []))) None
        → option_map (λ (e : Edge). e.target) (cond (nat_eq j k) (Some (edge_of table p j)) (find (λ (e : Edge). nat_eq e.keysym k) (map (edge_of table p) ks)))
        ≡ cond (b || list_any (λ i. k == i) ks) (Some (where_to table (p ++ k ∷ []))) None
    go true e later =
        let is : k ≡ j = eqb-true k j e in
        ap (λ t. option_map (λ (e : Edge). e.target) (cond t (Some (edge_of table p j)) (find (λ (e : Edge). nat_eq e.keysym k) (map (edge_of table p) ks)))) (eq-eqb j k (sym is))
        ∙ ap (λ i. Some (where_to table (p ++ i ∷ []))) (sym is)
    go false e later = ap (λ t. option_map (λ (e : Edge). e.target) (cond t (Some (edge_of table p j)) (find (λ (e : Edge). nat_eq e.keysym k) (map (edge_of table p) ks)))) (flipped j k e) ∙ later

-- a scan of a node's edges finds where a keysym leads
pub target_scanned : (table : List Definition) (p : List ℕ) (k : ℕ)
    → option_map (λ (e : Edge). e.target) (find (λ (e : Edge). nat_eq e.keysym k) (map (edge_of table p) (edges table p))) ≡ target_of table p k
target_scanned table p k = scanned table p k (edges table p) ∙ ap (λ b. cond {A = Option Target} b (Some (where_to table (p ++ k ∷ []))) None) (edge_is_listed table p k) ∙ sym (target_is table p k)

keysym_fits : (k j : ℕ) → k ≡ j → is_keysym j ≡ true → k < 536870912
keysym_fits k j is fits = let l : j ≤ 536870911 = leb-true j 536870911 fits in omega arith

-- an edge has a keysym
pub edge_fits : (table : List Definition) (p : List ℕ) (k : ℕ) → is_table table ≡ true → has_edge table p k ≡ true → k < 536870912
edge_fits table p k t h =
    let d = both_at is_definition (λ (d : Definition). list_any (λ j. k == j) d.sequence) table t (sym (keysyms_are table (λ j. k == j)) ∙ edge_key table p k h) in
    let j = both_at (λ j. is_keysym j && not (is_ignored j)) (λ j. k == j) d.0.sequence (sequence_fed d.0 d.1) d.2 in
    keysym_fits k j.0 (eqb-true k j.0 j.2) (and_parts (is_keysym j.0) (not (is_ignored j.0)) j.1).0

-- so no node has more edges than there are keysyms
pub edges_few : (table : List Definition) (p : List ℕ) → is_table table ≡ true → length (edges table p) ≤ 536870912
edges_few table p t = length-le_from_below 536870912 (edges table p) (edges_sorted table p)
    (All-from_recursion (λ k. k < 536870912) (edges table p) (all_found_keys (λ k. k < 536870912) (edges table p) (λ k h. edge_fits table p k t (listed_edge table p k h))))

-- ---- leaves

-- a settled table has as many leaves as definitions
pub leaves_count : (table : List Definition) → IsSettled table → length (leaves table) ≡ length table
leaves_count table s = ap length (leaves_are table s.rise) ∙ length-map table (λ (d : Definition). d.sequence)

-- each sequence comes after the first
first_before : (d : Definition) (table : List Definition) (t : List ℕ) → sequences_rise (d ∷ table) ≡ true → is_sequence table t ≡ true → Before d.sequence t
first_before d [] t r h = cc
first_before d (e ∷ table) t r h = elim (or_cases (same t e.sequence) (is_sequence table t) h) [
  | inl f ↦ ap (slice_cmp nat_cmp d.sequence) (same_is t e.sequence f) ∙ head_before d e table r
  | inr f ↦ nat_list_cmp_total.trans d.sequence e.sequence t (head_before d e table r) (first_before e table t (tail_rises d e table r) f)
]

tail_rises_on : (d : Definition) (table : List Definition) → sequences_rise (d ∷ table) ≡ true → sequences_rise table ≡ true
tail_rises_on d [] h = refl
tail_rises_on d (e ∷ table) h = tail_rises d e table h

no_text : (table : List Definition) (v : List ℕ) → is_sequence table v ≡ false → text_at table v ≡ None
no_text table v h = go (text_at table v) (sequence_text table v ∙ h)
  where
    go : (o : Option (List ℕ)) → is_some o ≡ false → o ≡ None
    go None e = refl
    go (Some t) e = cc

-- a sequence has the text at its index
text_at_index : (table : List Definition) (i : ℕ) (d : Definition) → sequences_rise table ≡ true → i < length table → text_at table (get_or table i d).sequence ≡ Some (get_or table i d).text
text_at_index [] i d r h = absurd (omega arith)
text_at_index (e ∷ table) zero d r h =
    ap (λ o. option_or o (cond (same e.sequence e.sequence) (Some e.text) None)) (no_text table e.sequence (only_first (cases_Bool (is_sequence table e.sequence))))
    ∙ ap (λ b. cond {A = Option (List ℕ)} b (Some e.text) None) (same_from e.sequence e.sequence refl)
  where
    only_first : (is_sequence table e.sequence ≡ true) ⊎ (is_sequence table e.sequence ≡ false) → is_sequence table e.sequence ≡ false
    only_first (inl f) = absurd (not_before_itself e.sequence e.sequence refl (first_before e table e.sequence r f))
    only_first (inr f) = f
text_at_index (e ∷ table) (suc i) d r h =
    ap (λ o. option_or o (cond (same (get_or table i d).sequence e.sequence) (Some e.text) None)) (text_at_index table i d (tail_rises_on e table r) (omega arith))

-- the text of a leaf is that of the definition at its index
pub leaf_text_is : (table : List Definition) (i : ℕ) (d : Definition) → IsSettled table → i < length table → leaf_text table i ≡ Some (get_or table i d).text
leaf_text_is table i d s h =
    ap (λ ls. text_at table (get_or ls i [])) (leaves_are table s.rise) ∙ ap (text_at table) (get_or-map (λ (e : Definition). e.sequence) table i d [] h) ∙ text_at_index table i d s.rise h

-- the text at a definition's index is its text
pub text_read : (table : List Definition) (i : ℕ) (t : List ℕ) (d : Definition) → i < length table → option_map (λ (e : Definition). e.text) (slice_get table i) ≡ Some t → t ≡ (get_or table i d).text
text_read table i t d h e = let f : Some (get_or table i d).text ≡ Some t = ap (option_map (λ (e : Definition). e.text)) (sym (slice_get-get_or table i d h)) ∙ e in cc

-- the text of a definition of a settled table has at most 255 bytes
pub text_few_at : (table : List Definition) (i : ℕ) (t : List ℕ) → IsSettled table → i < length table → option_map (λ (e : Definition). e.text) (slice_get table i) ≡ Some t → length t ≤ 255
text_few_at table i t s within e =
    let d : Definition = record { sequence = []; text = [] } in
    let few = text_few (get_or table i d) (definition_at table i d s.definitions within) in
    let n = ap length (text_read table i t d within e) in omega arith

-- the text at the index of a leaf, in a settled table, is that of the leaf, and has at most 255
-- bytes
pub text_is : (table : List Definition) (i : ℕ) (t : List ℕ) → IsSettled table → i < length (leaves table) → option_map (λ (e : Definition). e.text) (slice_get table i) ≡ Some t
    → (leaf_text table i ≡ Some t) × (length t ≤ 255)
text_is table i t s h e =
    let d : Definition = record { sequence = []; text = [] } in
    let within : i < length table = let n = leaves_count table s in omega arith in
    let is : t ≡ (get_or table i d).text = text_read table i t d within e in
    (leaf_text_is table i d s within ∙ ap (λ x. Some x) (sym is), text_few_at table i t s within e)
