-- Nodes and edges of a table, by what its sequences extend.
use Rattle.std.proofs.Common.{◌≡◌, ℕ, ◌+◌, ◌<◌, List, [], ◌∷◌, ◌++◌, Bool, true, false, cond, not, ◌&&◌, ◌||◌, length, get_or, refl, sym, ◌∙◌, ap, arith, inl, inr, eqb-true, nat_cmp, one-add}
use Rattle.std.specs.List.{list_any, flat_map, position_or_len}
use Rattle.std.specs.Prelude.{◌==◌}
use Rattle.std.specs.Cmp.Lexicographic.{slice_cmp, bytes_decides}
use Rattle.std.proofs.lemmas.Bool.{and_parts, and_from, or_cases, or_left, or_right}
use Rattle.std.proofs.lemmas.Map.Lookups.{exact_bytes, exact_unsigned}
use Rattle.compose_model.specs.Table.{Definition, same, is_proper_prefix, is_sequence, is_extended}
use Rattle.compose_model.specs.Step.{Effect, ignores, extends, completes, passes, cancels, effect, pending_by, pending_after, pending_from}
use Rattle.compose_model.specs.Nodes.{put, rising_lists, proper_prefixes, nodes, is_node, node, number_of, has_edge, keysyms, edges}
use Rattle.compose_model.proofs.Tests.{list_any-map, list_any-flat_map, list_any-filter, list_any-weaker, list_any-same, list_any-and, list_any-rising}
use Rattle.compose_model.proofs.Steps.{effect_tests}

-- lists that are the same by the test are equal
pub same_is : (s t : List ℕ) → same s t ≡ true → s ≡ t
same_is s t = (bytes_decides s t).0

-- equal lists are the same by the test
pub same_from : (s t : List ℕ) → s ≡ t → same s t ≡ true
same_from s t = (bytes_decides s t).1

-- ---- nodes

prefixes_are : (p s : List ℕ) → list_any (same p) (proper_prefixes s) ≡ is_proper_prefix p s
prefixes_are p [] = refl
prefixes_are [] (k ∷ s) = refl
prefixes_are (j ∷ p) (k ∷ s) =
    list_any-map (same (j ∷ p)) (λ q. k ∷ q) (proper_prefixes s) ∙ list_any-and (j == k) (same p) (proper_prefixes s) ∙ ap (λ b. j == k && b) (prefixes_are p s)

-- a node is the empty list, or what a sequence properly extends
pub node_means : (table : List Definition) (p : List ℕ) → is_node table p ≡ same p [] || is_extended table p
node_means table p =
    list_any-rising (slice_cmp nat_cmp) exact_bytes (same p) ([] ∷ flat_map (λ d. proper_prefixes d.sequence) table)
    ∙ ap (λ b. same p [] || b) (list_any-flat_map (same p) (λ (d : Definition). proper_prefixes d.sequence) table
    ∙ list_any-same (λ (d : Definition). list_any (same p) (proper_prefixes d.sequence)) (λ d. is_proper_prefix p d.sequence) (λ d. prefixes_are p d.sequence) table)

-- the empty list is a node of every table
pub root_is_node : (table : List Definition) → is_node table [] ≡ true
root_is_node table = node_means table []

-- what a sequence extends is a node
pub extended_is_node : (table : List Definition) (p : List ℕ) → is_extended table p ≡ true → is_node table p ≡ true
extended_is_node table p h = node_means table p ∙ or_right (same p []) (is_extended table p) h

-- a step from a node leads to a node
pub step_lands : (table : List Definition) (u : List ℕ) (k : ℕ) → is_node table u ≡ true → is_node table (pending_after table u k) ≡ true
step_lands table u k h = go (effect table u k) refl
  where
    go : (x : Effect) → effect table u k ≡ x → is_node table (pending_by x u k) ≡ true
    go ignores e = h
    go extends e = extended_is_node table (u ++ k ∷ []) (effect_tests table u k extends e).1
    go completes e = root_is_node table
    go passes e = root_is_node table
    go cancels e = root_is_node table

-- what is pending is a node, whatever was typed
pub pending_is_node : (table : List Definition) (u w : List ℕ) → is_node table u ≡ true → is_node table (pending_from table u w) ≡ true
pending_is_node table u [] h = h
pending_is_node table u (k ∷ w) h = pending_is_node table (pending_after table u k) w (step_lands table u k h)

-- ---- the numbers of nodes

-- the element at the index of a list that is found is that list
pub found_at : (p : List ℕ) (xs : List (List ℕ)) → list_any (same p) xs ≡ true → get_or xs (position_or_len (same p) xs) [] ≡ p
found_at p [] h = cc
found_at p (x ∷ xs) h = go (same p x) refl h (found_at p xs)
  where
    go : (b : Bool) → same p x ≡ b → b || list_any (same p) xs ≡ true → (list_any (same p) xs ≡ true → get_or xs (position_or_len (same p) xs) [] ≡ p)
        → get_or (x ∷ xs) (cond (not b) (1 + position_or_len (same p) xs) 0) [] ≡ p
    go true e h later = sym (same_is p x e)
    go false e h later = rw one-add (later h)

-- a list that is found has an index below the length
pub found_below : (p : List ℕ) (xs : List (List ℕ)) → list_any (same p) xs ≡ true → position_or_len (same p) xs < length xs
found_below p [] h = cc
found_below p (x ∷ xs) h = go (same p x) h (found_below p xs)
  where
    go : (b : Bool) → b || list_any (same p) xs ≡ true → (list_any (same p) xs ≡ true → position_or_len (same p) xs < length xs)
        → cond (not b) (1 + position_or_len (same p) xs) 0 < length (x ∷ xs)
    go true h later = omega arith
    go false h later = let l : position_or_len (same p) xs < length xs = later h in omega arith

-- the node with a node's number is that node
pub node_at_number : (table : List Definition) (p : List ℕ) → is_node table p ≡ true → node table (number_of table p) ≡ p
node_at_number table p h = found_at p (nodes table) h

-- a node's number is below the number of nodes
pub number_below : (table : List Definition) (p : List ℕ) → is_node table p ≡ true → number_of table p < length (nodes table)
number_below table p h = found_below p (nodes table) h

-- the root is the first node
put_root : (xs : List (List ℕ)) → (rest : List (List ℕ)) × (put (slice_cmp nat_cmp) [] xs ≡ [] ∷ rest)
put_root [] = ([], refl)
put_root ([] ∷ xs) = (xs, refl)
put_root ((k ∷ s) ∷ xs) = ((k ∷ s) ∷ xs, refl)

-- the empty list is the first node
pub root_first : (table : List Definition) → (rest : List (List ℕ)) × (nodes table ≡ [] ∷ rest)
root_first table = put_root (rising_lists (flat_map (λ d. proper_prefixes d.sequence) table))

-- the root has the number 0
pub root_number : (table : List Definition) → number_of table [] ≡ 0
root_number table = let r = root_first table in rw r.1 refl

-- the node with the number 0 is the root
pub node_zero : (table : List Definition) → node table 0 ≡ []
node_zero table = let r = root_first table in rw r.1 refl

-- only the root has the number 0
pub zero_is_root : (table : List Definition) (p : List ℕ) → is_node table p ≡ true → number_of table p ≡ 0 → p ≡ []
zero_is_root table p h e = sym (node_at_number table p h) ∙ ap (node table) e ∙ node_zero table

-- ---- edges

has_key_extended : (p s : List ℕ) (k : ℕ) → is_proper_prefix (p ++ k ∷ []) s ≡ true → list_any (λ j. k == j) s ≡ true
has_key_extended [] [] k h = cc
has_key_extended [] (x ∷ s) k h = or_left (k == x) (list_any (λ j. k == j) s) (and_parts (k == x) (is_proper_prefix [] s) h).0
has_key_extended (j ∷ p) [] k h = cc
has_key_extended (j ∷ p) (x ∷ s) k h = or_right (k == x) (list_any (λ y. k == y) s) (has_key_extended p s k (and_parts (j == x) (is_proper_prefix (p ++ k ∷ []) s) h).1)

has_key_same : (p s : List ℕ) (k : ℕ) → same (p ++ k ∷ []) s ≡ true → list_any (λ j. k == j) s ≡ true
has_key_same [] [] k h = cc
has_key_same [] (x ∷ s) k h = or_left (k == x) (list_any (λ j. k == j) s) (and_parts (k == x) (same [] s) h).0
has_key_same (j ∷ p) [] k h = cc
has_key_same (j ∷ p) (x ∷ s) k h = or_right (k == x) (list_any (λ y. k == y) s) (has_key_same p s k (and_parts (j == x) (same (p ++ k ∷ []) s) h).1)

-- a list with a keysym at its end is not empty
pub never_empty : (p : List ℕ) (k : ℕ) → same (p ++ k ∷ []) [] ≡ false
never_empty [] k = refl
never_empty (j ∷ p) k = refl

-- p goes on with k if a sequence extends p and k, or is p and k
pub edge_extends : (table : List Definition) (p : List ℕ) (k : ℕ) → has_edge table p k ≡ is_extended table (p ++ k ∷ []) || is_sequence table (p ++ k ∷ [])
edge_extends table p k =
    ap (λ b. b || is_sequence table (p ++ k ∷ [])) (node_means table (p ++ k ∷ []) ∙ ap (λ b. b || is_extended table (p ++ k ∷ [])) (never_empty p k))

-- a test finds a keysym of the table exactly if it finds one in a sequence
pub keysyms_are : (table : List Definition) (q : ℕ → Bool) → list_any q (keysyms table) ≡ list_any (λ d. list_any q d.sequence) table
keysyms_are table q = list_any-rising nat_cmp exact_unsigned q (flat_map (λ d. d.sequence) table) ∙ list_any-flat_map q (λ (d : Definition). d.sequence) table

-- an edge of any node is one of the table's keysyms
pub edge_key : (table : List Definition) (p : List ℕ) (k : ℕ) → has_edge table p k ≡ true → list_any (λ j. k == j) (keysyms table) ≡ true
edge_key table p k h =
    keysyms_are table (λ j. k == j) ∙
    elim (or_cases (is_extended table (p ++ k ∷ [])) (is_sequence table (p ++ k ∷ [])) (sym (edge_extends table p k) ∙ h)) [
      | inl e ↦ list_any-weaker (λ (d : Definition). is_proper_prefix (p ++ k ∷ []) d.sequence) (λ d. list_any (λ j. k == j) d.sequence) (λ d. has_key_extended p d.sequence k) table e
      | inr e ↦ list_any-weaker (λ (d : Definition). same (p ++ k ∷ []) d.sequence) (λ d. list_any (λ j. k == j) d.sequence) (λ d. has_key_same p d.sequence k) table e
    ]

-- the keysym k is among the edges of p
abbrev pub is_edge : List Definition → List ℕ → ℕ → Bool
is_edge table p k = list_any (λ j. k == j) (edges table p)

-- the edges of a node are the keysyms with which it goes on to a node or a sequence
pub edge_listed : (table : List Definition) (p : List ℕ) (k : ℕ) → has_edge table p k ≡ true → is_edge table p k ≡ true
edge_listed table p k h =
    list_any-filter (λ j. k == j) (has_edge table p) (keysyms table) ∙
    list_any-weaker (λ j. k == j) (λ j. has_edge table p j && k == j)
    (λ j e. and_from (has_edge table p j) (k == j) (ap (has_edge table p) (sym (eqb-true k j e)) ∙ h) e) (keysyms table) (edge_key table p k h)

-- a keysym that is listed among a node's edges is an edge of it
pub listed_edge : (table : List Definition) (p : List ℕ) (k : ℕ) → is_edge table p k ≡ true → has_edge table p k ≡ true
listed_edge table p k h = go (keysyms table) (sym (list_any-filter (λ j. k == j) (has_edge table p) (keysyms table)) ∙ h)
  where
    go : (js : List ℕ) → list_any (λ j. has_edge table p j && k == j) js ≡ true → has_edge table p k ≡ true
    go [] e = cc
    go (j ∷ js) e = elim (or_cases (has_edge table p j && k == j) (list_any (λ i. has_edge table p i && k == i) js) e) [
      | inl f ↦ (let both = and_parts (has_edge table p j) (k == j) f in ap (has_edge table p) (eqb-true k j both.1) ∙ both.0)
      | inr f ↦ go js f
    ]
