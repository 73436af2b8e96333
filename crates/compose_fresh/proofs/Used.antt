-- The keysyms of a table's sequences are the edges of its nodes.
use Rattle.std.proofs.Common.{◌≡◌, ℕ, List, [], ◌∷◌, ◌++◌, Bool, true, false, ◌&&◌, ◌||◌, refl, sym, ◌∙◌, ap, inl, inr, eq-eqb}
use Rattle.std.specs.Prelude.{◌==◌}
use Rattle.std.specs.List.{list_any}
use Rattle.std.proofs.lemmas.Bool.{and_from, or_cases, or_left, or_right}
use Rattle.compose_model.specs.Table.{Definition, same, has_key, is_proper_prefix, is_sequence, is_extended}
use Rattle.compose_model.specs.Nodes.{nodes, edges, keysyms}
use Rattle.compose_model.proofs.Tests.{list_any-weaker}
use Rattle.compose_model.proofs.NodeLemmas.{same_is, extended_is_node, keysyms_are, edge_extends, edge_key, edge_listed, listed_edge}

-- two tests are the same if each passes whenever the other does
pub same_test : (a b : Bool) → (a ≡ true → b ≡ true) → (b ≡ true → a ≡ true) → a ≡ b
same_test true b f g = sym (f refl)
same_test false true f g = g refl
same_test false false f g = refl

-- the part of s before k
pub record Before (k : ℕ) (s : List ℕ) : Type 0 where
  pub prefix : List ℕ
  pub is_prefix : is_proper_prefix prefix s ≡ true
  pub goes_on : is_proper_prefix (prefix ++ k ∷ []) s || same (prefix ++ k ∷ []) s ≡ true

before_key : (k : ℕ) (s : List ℕ) → list_any (λ j. k == j) s ≡ true → Before k s
before_key k [] h = cc
before_key k (x ∷ s) h = elim (or_cases (k == x) (list_any (λ j. k == j) s) h) [
  | inl e ↦ record { prefix = []; is_prefix = refl; goes_on = here s e }
  | inr e ↦ (let b = before_key k s e in record {
    prefix = x ∷ b.prefix;
    is_prefix = and_from (x == x) (is_proper_prefix b.prefix s) (eq-eqb x x refl) b.is_prefix;
    goes_on = behind b.prefix b.goes_on;
  })
]
  where
    here : (s : List ℕ) → k == x ≡ true → is_proper_prefix (k ∷ []) (x ∷ s) || same (k ∷ []) (x ∷ s) ≡ true
    here [] e = or_right (k == x && false) (k == x && true) (and_from (k == x) true e refl)
    here (y ∷ s) e = or_left (k == x && true) (k == x && false) (and_from (k == x) true e refl)

    behind : (p : List ℕ) → is_proper_prefix (p ++ k ∷ []) s || same (p ++ k ∷ []) s ≡ true → is_proper_prefix (x ∷ p ++ k ∷ []) (x ∷ s) || same (x ∷ p ++ k ∷ []) (x ∷ s) ≡ true
    behind p g = elim (or_cases (is_proper_prefix (p ++ k ∷ []) s) (same (p ++ k ∷ []) s) g) [
      | inl f ↦ or_left (x == x && is_proper_prefix (p ++ k ∷ []) s) (x == x && same (p ++ k ∷ []) s) (and_from (x == x) (is_proper_prefix (p ++ k ∷ []) s) (eq-eqb x x refl) f)
      | inr f ↦ or_right (x == x && is_proper_prefix (p ++ k ∷ []) s) (x == x && same (p ++ k ∷ []) s) (and_from (x == x) (same (p ++ k ∷ []) s) (eq-eqb x x refl) f)
    ]

-- a node that goes on with k
record Edge (table : List Definition) (k : ℕ) : Type 0 where
  pub node : List ℕ
  pub extended : is_extended table node ≡ true
  pub goes_on : is_extended table (node ++ k ∷ []) || is_sequence table (node ++ k ∷ []) ≡ true

edge_of : (table : List Definition) (k : ℕ) → list_any (λ d. list_any (λ j. k == j) d.sequence) table ≡ true → Edge table k
edge_of [] k h = cc
edge_of (d ∷ table) k h = elim (or_cases (list_any (λ j. k == j) d.sequence) (list_any (λ d. list_any (λ j. k == j) d.sequence) table) h) [
  | inl e ↦ (let b = before_key k d.sequence e in record {
    node = b.prefix;
    extended = or_left (is_proper_prefix b.prefix d.sequence) (is_extended table b.prefix) b.is_prefix;
    goes_on =
        either (b.prefix ++ k ∷ [])
        (or_left (is_proper_prefix (b.prefix ++ k ∷ []) d.sequence || same (b.prefix ++ k ∷ []) d.sequence)
        (is_extended table (b.prefix ++ k ∷ []) || is_sequence table (b.prefix ++ k ∷ [])) b.goes_on);
  })
  | inr e ↦ (let r = edge_of table k e in record {
    node = r.node;
    extended = or_right (is_proper_prefix r.node d.sequence) (is_extended table r.node) r.extended;
    goes_on =
        either (r.node ++ k ∷ [])
        (or_right (is_proper_prefix (r.node ++ k ∷ []) d.sequence || same (r.node ++ k ∷ []) d.sequence) (is_extended table (r.node ++ k ∷ []) || is_sequence table (r.node ++ k ∷ [])) r.goes_on);
  })
]
  where
    swap : (a b c e : Bool) → (a || b) || (c || e) ≡ true → (a || c) || (b || e) ≡ true
    swap true b c e h = refl
    swap false b true e h = refl
    swap false true false e h = refl
    swap false false false e h = h

    either : (q : List ℕ) → (is_proper_prefix q d.sequence || same q d.sequence) || (is_extended table q || is_sequence table q) ≡ true → is_extended (d ∷ table) q || is_sequence (d ∷ table) q ≡ true
    either q h = swap (is_proper_prefix q d.sequence) (same q d.sequence) (is_extended table q) (is_sequence table q) h

-- if some element passes, what follows from each one that passes holds
some_gives : {X : Type 0} (q : X → Bool) (b : Bool) → ((x : X) → q x ≡ true → b ≡ true) → (xs : List X) → list_any q xs ≡ true → b ≡ true
some_gives q b f [] h = cc
some_gives q b f (x ∷ xs) h = elim (or_cases (q x) (list_any q xs) h) [ inl e ↦ f x e | inr e ↦ some_gives q b f xs e ]

-- a keysym is in a sequence exactly if it is an edge of some node
pub keysyms_are_edges : (table : List Definition) (k : ℕ) → list_any (λ p. has_key (edges table p) k) (nodes table) ≡ has_key (keysyms table) k
keysyms_are_edges table k = same_test (list_any (λ p. has_key (edges table p) k) (nodes table)) (has_key (keysyms table) k)
    (some_gives (λ p. has_key (edges table p) k) (has_key (keysyms table) k) (λ p e. edge_key table p k (listed_edge table p k e)) (nodes table))
    (λ h. let e = edge_of table k (sym (keysyms_are table (λ j. k == j)) ∙ h) in
    list_any-weaker (same e.node) (λ p. has_key (edges table p) k)
    (λ p s. ap (λ q. has_key (edges table q) k) (sym (same_is e.node p s)) ∙ edge_listed table e.node k (edge_extends table e.node k ∙ e.goes_on))
    (nodes table) (extended_is_node table e.node e.extended))
