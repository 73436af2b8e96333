-- The conditions on a certificate in the order in which they are checked, each with the fault that
-- is reported if it is not met.
use Rattle.std.specs.Prelude.{ℕ, Bool, false, not, ◌+◌, ◌-◌, ◌&&◌, ◌||◌, nat_lt, nat_le, if◌then◌else◌, List, [], ◌∷◌, ◌++◌, length, map, flat_map, replicate, Option, encode_utf8}
use Rattle.std.specs.List.{list_all}
use Rattle.std.specs.Cmp.Lexicographic.{pointwise}
use Rattle.keysym_core.specs.Names.{KeysymNames}
use Rattle.compose_model.specs.Table.{Definition, same, has_key}
use Rattle.compose_model.specs.Step.{step, run, pending, is_cancel, is_empty}
use Rattle.compose_model.specs.Nodes.{nodes, node, number_of, edges, has_edge}
use Rattle.compose_model.specs.Certificate.{Certificate, Repertoire, Typing, is_key, pairs_rise, pairs_in_range, has_pair, rest_is_kept, types_itself}
use Rattle.compose_fresh.specs.declared.fault.CheckFault.{CheckFault}
use Rattle.compose_fresh.specs.declared.fault.CheckFault.TheVariants.{PairsNotRising, NodeOutOfRange, RootPairMissing, RestBroken, NewStart, Cancels, TextDiffers, PairMissing, BoundExceeded, TypingMissing, TypingWrong, TypingUnasked}
use Rattle.compose_fresh.specs.Conditions.{Condition, condition, first_unmet}
use Rattle.compose_fresh.specs.Fresh.{fresh_conditions}

-- ---- the pairs are increasing and are nodes, the roots are a pair, and the old root is paired only with the new root
abbrev pub pair_conditions : List Definition → List Definition → List (ℕ × ℕ) → List Condition
pair_conditions old new pairs =
    condition (pairs_rise pairs) PairsNotRising ∷ condition (pairs_in_range old new pairs) NodeOutOfRange ∷
    condition (has_pair pairs 0 0) RootPairMissing ∷ condition (rest_is_kept pairs) RestBroken ∷ []

-- ---- a keysym that begins a sequence in the new table and none in the old one is fresh, or types itself

abbrev pub start_condition : KeysymNames → List ℕ → List Definition → List Definition → ℕ → Condition
start_condition names fresh old new k = condition (has_edge old [] k || (has_key fresh k || types_itself names new k)) (NewStart k)

abbrev pub start_conditions : KeysymNames → List ℕ → List Definition → List Definition → List Condition
start_conditions names fresh old new = map (start_condition names fresh old new) (edges new [])

-- ---- at each edge of the old node of a pair, the new step does not cancel, commits the old text, and leads to a pair

abbrev pub one_edge_conditions : KeysymNames → List Definition → List Definition → List (ℕ × ℕ) → ℕ → List ℕ → List ℕ → ℕ → List Condition
one_edge_conditions names old new pairs index u v k =
    let a = step names old u k in
    let b = step names new v k in
    condition (not (is_cancel b.effect)) (Cancels index k) ∷ condition (same b.text a.text) (TextDiffers index k) ∷
    condition (has_pair pairs (number_of old a.pending) (number_of new b.pending)) (PairMissing index k) ∷ []

-- the conditions of the pairs from this one on, which has the index `index`
abbrev pub edge_conditions_from : KeysymNames → List Definition → List Definition → List (ℕ × ℕ) → ℕ → List (ℕ × ℕ) → List Condition
edge_conditions_from names old new pairs index [] = []
edge_conditions_from names old new pairs index (p ∷ ps) =
    flat_map (one_edge_conditions names old new pairs index (node old p.0) (node new p.1)) (edges old (node old p.0))
    ++ edge_conditions_from names old new pairs (1 + index) ps

abbrev pub edge_conditions : KeysymNames → List Definition → List Definition → List (ℕ × ℕ) → List Condition
edge_conditions names old new pairs = edge_conditions_from names old new pairs 0 pairs

-- ---- no node is longer than the bound

abbrev pub bound_conditions_from : ℕ → ℕ → List (List ℕ) → List Condition
bound_conditions_from bound index [] = []
bound_conditions_from bound index (p ∷ ps) = condition (nat_le (length p) bound) (BoundExceeded index) ∷ bound_conditions_from bound (1 + index) ps

abbrev pub bound_conditions : List Definition → ℕ → List Condition
bound_conditions new bound = bound_conditions_from bound 0 (nodes new)

-- ---- the typings are those of the repertoire's characters in order, with its keys

-- w commits the character c at its last key and nothing before, and leaves nothing pending
abbrev pub types : KeysymNames → List Definition → List ℕ → ℕ → Bool
types names table w c = pointwise same (map (λ s. s.text) (run names table w)) (replicate (length w - 1) [] ++ encode_utf8 c ∷ []) && is_empty (pending table w)

abbrev pub is_right : KeysymNames → List Definition → Repertoire → Typing → Bool
is_right names new repertoire t = list_all (is_key repertoire) t.keys && types names new t.keys t.character

-- the characters and the typings side by side; one without a counterpart is not met
abbrev pub typing_conditions : KeysymNames → List Definition → Repertoire → List ℕ → List Typing → List Condition
typing_conditions names new repertoire [] [] = []
typing_conditions names new repertoire [] (t ∷ ts) = condition false (TypingUnasked t.character) ∷ []
typing_conditions names new repertoire (c ∷ cs) [] = condition false (TypingMissing c) ∷ []
typing_conditions names new repertoire (c ∷ cs) (t ∷ ts) =
    if nat_lt t.character c then condition false (TypingUnasked t.character) ∷ [] else
    if nat_lt c t.character then condition false (TypingMissing c) ∷ [] else
    condition (is_right names new repertoire t) (TypingWrong c) ∷ typing_conditions names new repertoire cs ts

-- ---- all of them

abbrev pub conditions : KeysymNames → List Definition → List Definition → Repertoire → Certificate → List Condition
conditions names old new repertoire c =
    pair_conditions old new c.pairs ++ (fresh_conditions old c.fresh ++ (start_conditions names c.fresh old new ++
    (edge_conditions names old new c.pairs ++ (bound_conditions new c.bound ++ typing_conditions names new repertoire repertoire.characters c.typings))))

-- the fault of a certificate, if it has one
abbrev pub fault_of : KeysymNames → List Definition → List Definition → Repertoire → Certificate → Option CheckFault
fault_of names old new repertoire c = first_unmet (conditions names old new repertoire c)
