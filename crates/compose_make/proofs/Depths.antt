-- The greatest of the depths of the visited nodes.
use Rattle.std.proofs.Common.{◌≡◌, ℕ, ◌+◌, ◌<◌, ◌≤◌, List, [], ◌∷◌, true, length, take, refl, ◌∙◌, ap, arith}
use Rattle.std.specs.Prelude.{nat_le}
use Rattle.std.specs.List.{list_all}
use Rattle.std.proofs.lemmas.List.{take_more}
use Rattle.std.proofs.lemmas.List.Folds.{list_all-append}
use Rattle.std.proofs.lemmas.Bool.{and_parts, and_from, le-leb, leb-true}
use Rattle.compose_model.specs.Table.{Definition}
use Rattle.compose_model.specs.Nodes.{nodes, node}

deeper : (a b : ℕ) → a ≤ b → (ps : List (List ℕ)) → list_all (λ p. nat_le (length p) a) ps ≡ true → list_all (λ p. nat_le (length p) b) ps ≡ true
deeper a b l [] h = refl
deeper a b l (p ∷ ps) h =
    let parts = and_parts (nat_le (length p) a) (list_all (λ (q : List ℕ). nat_le (length q) a) ps) h in
    and_from (nat_le (length p) b) (list_all (λ (q : List ℕ). nat_le (length q) b) ps) (le-leb (length p) b (let m : length p ≤ a = leb-true (length p) a parts.0 in omega arith))
    (deeper a b l ps parts.1)

-- one more node, which is no deeper than this
pub bounds_more : (table : List Definition) (i a b : ℕ) → i < length (nodes table) → a ≤ b → length (node table i) ≤ b → list_all (λ p. nat_le (length p) a) (take i (nodes table)) ≡ true
    → list_all (λ p. nat_le (length p) b) (take (i + 1) (nodes table)) ≡ true
bounds_more table i a b below l m h =
    ap (list_all (λ (p : List ℕ). nat_le (length p) b)) (take_more (nodes table) i [] below)
    ∙ list_all-append (λ (p : List ℕ). nat_le (length p) b) (take i (nodes table)) (node table i ∷ [])
    ∙ and_from (list_all (λ (p : List ℕ). nat_le (length p) b) (take i (nodes table))) (list_all (λ (p : List ℕ). nat_le (length p) b) (node table i ∷ [])) (deeper a b l (take i (nodes table)) h)
    (and_from (nat_le (length (node table i)) b) true (le-leb (length (node table i)) b m) refl)
