-- What the pass keeps: the partner of each old node, and the keys that it found. Definitions for
-- private functions.
use Rattle.std.specs.Prelude.{◌≡◌, ℕ, ◌+◌, ◌<◌, Bool, true, false, ◌&&◌, ◌||◌, ◌==◌, nat_lt, if◌then◌else◌, List, [], ◌∷◌, ◌++◌, length, map, flat_map, Option, Some, None, unwrap_or}
use Rattle.keysym_core.specs.Keysym.{is_ignored}
use Rattle.keysym_core.specs.Names.{KeysymNames}
use Rattle.compose_model.specs.Table.{Definition, has_key}
use Rattle.compose_model.specs.Step.{is_empty, pending}
use Rattle.compose_model.specs.Follows.{text_differs}
use Rattle.compose_model.specs.Nodes.{nodes, node, number_of}
use Rattle.compose_walk.specs.Evidence.{Evidence}
use Rattle.compose_walk.specs.Pass.{difference_at, differs_at, agrees, differing_edges, differing_starts, evidence}
use Rattle.compose_walk.specs.declared.pass.Partner.{Partner}
use Rattle.compose_walk.specs.declared.pass.Found.{Found}

-- all keys but the last one, and the last one
abbrev pub without_last : List ℕ → List ℕ
without_last [] = []
without_last (k ∷ []) = []
without_last (k ∷ j ∷ p) = k ∷ without_last (j ∷ p)

abbrev pub last_key : List ℕ → ℕ
last_key [] = 0
last_key (k ∷ []) = k
last_key (k ∷ j ∷ p) = last_key (j ∷ p)

-- the partner of the old node p, if the tables agree up to it
abbrev pub stand : KeysymNames → List Definition → List Definition → List ℕ → Option Partner
stand names old new p =
    if agrees names old new p then Some (record {
      new_node = record { 0 = number_of new (pending new p) };
      parent = record { 0 = number_of old (without_last p) };
      keysym = last_key p;
    }) else None

-- the edge that leads to p was visited: it is at a node before the one with this number, or is one
-- of these keys at that node
abbrev pub is_done : List Definition → ℕ → List ℕ → List ℕ → Bool
is_done old i ks p = is_empty p || (nat_lt (number_of old (without_last p)) i || (number_of old (without_last p) == i && has_key ks (last_key p)))

abbrev pub partners_at : KeysymNames → List Definition → List Definition → ℕ → List ℕ → List (Option Partner)
partners_at names old new i ks = map (λ p. if is_done old i ks p then stand names old new p else None) (nodes old)

-- the key k at the old node p
abbrev pub found_at : List Definition → List ℕ → ℕ → Found
found_at old p k = record { depth = length p; node = number_of old p; keysym = k }

-- the keys found at the old node p
abbrev pub found_behind : KeysymNames → List Definition → List Definition → List ℕ → List Found
found_behind names old new p = map (found_at old p) (differing_edges names old new p)

-- the keys found among the new starts, and at these nodes
abbrev pub all_found : KeysymNames → List ℕ → List Definition → List Definition → List (List ℕ) → List Found
all_found names fresh old new ps = map (found_at old []) (differing_starts names fresh old new) ++ flat_map (found_behind names old new) ps

-- a has fewer keys than b, or as many and comes before it: by the numbers of their nodes, then by
-- their last keys
abbrev pub comes_sooner : Found → Found → Bool
comes_sooner a b = if a.depth == b.depth then (if a.node == b.node then nat_lt a.keysym b.keysym else nat_lt a.node b.node) else nat_lt a.depth b.depth

-- the tables agree up to an old node, and then differ at a key that is not ignored
pub record IsPlace (names : KeysymNames) (old new : List Definition) (f : Found) : Type 0 where
  pub in_range : f.node < length (nodes old)
  pub agree : agrees names old new (node old f.node) ≡ true
  pub differ : differs_at names old new (node old f.node) f.keysym ≡ true
  pub fed : is_ignored f.keysym ≡ false

-- the evidence for it (if the tables do not differ, the kind is arbitrary)
abbrev pub evidence_found : KeysymNames → List Definition → List Definition → Found → Evidence
evidence_found names old new f =
    evidence names old new (node old f.node) f.keysym (unwrap_or (difference_at names old new (node old f.node) f.keysym) text_differs)

-- the nodes with a partner, numbered from n on, each with its new node
abbrev pub partner_pairs : ℕ → List (Option Partner) → List (ℕ × ℕ)
partner_pairs n [] = []
partner_pairs n (None ∷ xs) = partner_pairs (n + 1) xs
partner_pairs n (Some s ∷ xs) = (n, s.new_node.0) ∷ partner_pairs (n + 1) xs
