-- The sequences of a table: what is extended, what begins, and typing one of them.
use Rattle.std.proofs.Common.{◌≡◌, ◌≢◌, ℕ, List, [], ◌∷◌, ◌++◌, true, not, refl, sym, ◌∙◌, ap, inl, inr, eqb-true, eq-eqb}
use Rattle.std.specs.Prelude.{◌==◌, ◌⊎◌}
use Rattle.std.proofs.lemmas.Bool.{and_parts, and_from, or_cases, or_left, or_right, not_from_false}
use Rattle.compose_model.specs.Table.{Definition, same, has_key, avoids, is_proper_prefix, is_sequence, is_extended, is_table}
use Rattle.compose_model.specs.Step.{cancels, effect, is_cancel, pending, uncancelled, uncancelled_from}
use Rattle.compose_model.specs.Nodes.{has_edge}
use Rattle.compose_model.specs.Certificate.{AreFresh}
use Rattle.compose_model.proofs.Tests.{list_any-weaker}
use Rattle.compose_model.proofs.Steps.{no_cancel_test}
use Rattle.compose_model.proofs.NodeLemmas.{same_is, same_from, extended_is_node, edge_extends}
use Rattle.compose_model.proofs.Avoids.{avoids_both, node_avoids, edge_not_fresh}
use Rattle.compose_model.proofs.Reached.{node_reached, uncancelled_from-append}
use Rattle.compose_model.proofs.Exact.{edge_goes_on}

-- what is extended, is extended by a sequence of the table
pub extension : (table : List Definition) (p : List ℕ) → is_extended table p ≡ true → (s : List ℕ) × (is_sequence table s ≡ true) × (is_proper_prefix p s ≡ true)
extension [] p h = cc
extension (d ∷ table) p h = elim (or_cases (is_proper_prefix p d.sequence) (is_extended table p) h) [
  | inl e ↦ (d.sequence, or_left (same d.sequence d.sequence) (is_sequence table d.sequence) (same_from d.sequence d.sequence refl), e)
  | inr e ↦ (let x = extension table p e in (x.0, or_right (same x.0 d.sequence) (is_sequence table x.0) x.1, x.2))
]

-- what a list goes on with after its prefix
pub behind : (p s : List ℕ) → is_proper_prefix p s ≡ true → (r : List ℕ) × (s ≡ p ++ r)
behind p [] h = cc
behind [] (k ∷ s) h = (k ∷ s, refl)
behind (j ∷ p) (k ∷ s) h =
    let parts = and_parts (j == k) (is_proper_prefix p s) h in
    let r = behind p s parts.1 in
    (r.0, ap (λ y. y ∷ s) (sym (eqb-true j k parts.0)) ∙ ap (λ y. j ∷ y) r.1)

pub begins_longer : (p : List ℕ) (k : ℕ) → is_proper_prefix p (p ++ k ∷ []) ≡ true
begins_longer [] k = refl
begins_longer (j ∷ p) k = and_from (j == j) (is_proper_prefix p (p ++ k ∷ [])) (eq-eqb j j refl) (begins_longer p k)

-- a list is empty, or has a last key
pub last_key : (s : List ℕ) → (s ≡ []) ⊎ ((p : List ℕ) × (k : ℕ) × (s ≡ p ++ k ∷ []))
last_key [] = inl refl
last_key (j ∷ s) = elim (last_key s) [
  | inl e ↦ inr ([], j, ap (λ y. j ∷ y) e)
  | inr x ↦ inr (j ∷ x.0, x.1, ap (λ y. j ∷ y) x.2)
]

-- the keys of a sequence before its last one are a node, and the last one is an edge
pub before_last : (table : List Definition) (p : List ℕ) (k : ℕ) → is_sequence table (p ++ k ∷ []) ≡ true → is_extended table p ≡ true
before_last table p k h =
    list_any-weaker (λ (d : Definition). same (p ++ k ∷ []) d.sequence) (λ d. is_proper_prefix p d.sequence)
    (λ d e. ap (is_proper_prefix p) (sym (same_is (p ++ k ∷ []) d.sequence e)) ∙ begins_longer p k) table h

-- the last key of a sequence is an edge after the keys before it
pub last_edge : (table : List Definition) (p : List ℕ) (k : ℕ) → is_sequence table (p ++ k ∷ []) ≡ true → has_edge table p k ≡ true
last_edge table p k h = edge_extends table p k ∙ or_right (is_extended table (p ++ k ∷ [])) (is_sequence table (p ++ k ∷ [])) h

-- a sequence begins with an edge of the root
pub first_edge : (table : List Definition) (k : ℕ) (s : List ℕ) → is_sequence table (k ∷ s) ≡ true → has_edge table [] k ≡ true
first_edge table k [] h = last_edge table [] k h
first_edge table k (j ∷ s) h =
    edge_extends table [] k ∙ or_left (is_extended table (k ∷ [])) (is_sequence table (k ∷ []))
    (list_any-weaker (λ (d : Definition). same (k ∷ j ∷ s) d.sequence) (λ d. is_proper_prefix (k ∷ []) d.sequence)
    (λ d e. ap (is_proper_prefix (k ∷ [])) (sym (same_is (k ∷ j ∷ s) d.sequence e)) ∙ and_from (k == k) true (eq-eqb k k refl) refl) table h)

-- typing a sequence of a table cancels nowhere
pub sequence_goes_on : (table : List Definition) (s : List ℕ) → is_table table ≡ true → is_sequence table s ≡ true → uncancelled table s ≡ true
sequence_goes_on table s t h = elim (last_key s) [
  | inl e ↦ ap (uncancelled table) e
  | inr x ↦ (let p = x.0 in let k = x.1 in
      let here : is_sequence table (p ++ k ∷ []) ≡ true = ap (is_sequence table) (sym x.2) ∙ h in
      let r = node_reached table p t (extended_is_node table p (before_last table p k here)) in
      let goes : effect table (pending table p) k ≢ cancels = λ c. edge_goes_on table p k t (last_edge table p k here) (ap (λ y. effect table y k) (sym r.again) ∙ c) in
      ap (uncancelled table) x.2 ∙ uncancelled_from-append table [] p (k ∷ []) ∙ and_from (uncancelled table p) (uncancelled_from table (pending table p) (k ∷ [])) r.goes_on
      (and_from (not (is_cancel (effect table (pending table p) k))) true (no_cancel_test (effect table (pending table p) k) goes) refl))
]

-- no sequence of the old table has a fresh keysym
pub sequence_avoids : (fresh : List ℕ) (table : List Definition) (s : List ℕ) → AreFresh fresh table → is_sequence table s ≡ true → avoids fresh s ≡ true
sequence_avoids fresh table s a h = elim (last_key s) [
  | inl e ↦ ap (avoids fresh) e
  | inr x ↦ (let p = x.0 in let k = x.1 in
      let here : is_sequence table (p ++ k ∷ []) ≡ true = ap (is_sequence table) (sym x.2) ∙ h in
      ap (avoids fresh) x.2 ∙ avoids_both fresh p (k ∷ []) (node_avoids fresh table p a (extended_is_node table p (before_last table p k here)))
      (and_from (not (has_key fresh k)) true (not_from_false (has_key fresh k) (edge_not_fresh fresh table p k a (last_edge table p k here))) refl))
]
