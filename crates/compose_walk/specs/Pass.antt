-- What one pass over the nodes of the old table finds: up to which nodes the tables agree, and the
-- keys at which they then differ. Definitions for private functions.
use Rattle.std.specs.Prelude.{ℕ, Bool, true, not, ◌&&◌, if◌then◌else◌, List, [], ◌∷◌, ◌++◌, Option, is_some}
use Rattle.std.specs.List.{filter}
use Rattle.keysym_core.specs.Names.{KeysymNames}
use Rattle.compose_model.specs.Table.{Definition, has_key}
use Rattle.compose_model.specs.Step.{step, pending, pending_after}
use Rattle.compose_model.specs.Follows.{Kind, difference}
use Rattle.compose_model.specs.Nodes.{has_edge, edges}
use Rattle.compose_walk.specs.Evidence.{Evidence}

-- how the tables differ at the key k after the node p
abbrev pub difference_at : KeysymNames → List Definition → List Definition → List ℕ → ℕ → Option Kind
difference_at names old new p k = difference (step names old p k) (step names new (pending new p) k)

abbrev pub differs_at : KeysymNames → List Definition → List Definition → List ℕ → ℕ → Bool
differs_at names old new p k = is_some (difference_at names old new p k)

-- the tables agree at each of the keys w, from u and v on
abbrev pub agrees_from : KeysymNames → List Definition → List Definition → List ℕ → List ℕ → List ℕ → Bool
agrees_from names old new u v [] = true
agrees_from names old new u v (k ∷ w) =
    not (is_some (difference (step names old u k) (step names new v k))) && agrees_from names old new (pending_after old u k) (pending_after new v k) w

abbrev pub agrees : KeysymNames → List Definition → List Definition → List ℕ → Bool
agrees names old new w = agrees_from names old new [] [] w

-- the edges of the old node p at which the tables differ, if they agree up to it
abbrev pub differing_edges : KeysymNames → List Definition → List Definition → List ℕ → List ℕ
differing_edges names old new p = if agrees names old new p then filter (differs_at names old new p) (edges old p) else []

-- it starts sequences in the new table alone, is not fresh, and differs
abbrev pub is_differing_start : KeysymNames → List ℕ → List Definition → List Definition → ℕ → Bool
is_differing_start names fresh old new k = not (has_edge old [] k) && (not (has_key fresh k) && differs_at names old new [] k)

abbrev pub differing_starts : KeysymNames → List ℕ → List Definition → List Definition → List ℕ
differing_starts names fresh old new = filter (is_differing_start names fresh old new) (edges new [])

-- the evidence that the tables differ at the key k after the node p
abbrev pub evidence : KeysymNames → List Definition → List Definition → List ℕ → ℕ → Kind → Evidence
evidence names old new p k kind = record { keys = p ++ k ∷ []; kind = kind; old_text = (step names old p k).text; new_text = (step names new (pending new p) k).text }
