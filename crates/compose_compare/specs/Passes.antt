-- What the passes through two tables know at a node, and what they write at the leaves. Definitions
-- for private functions.
use Rattle.std.specs.Prelude.{◌≡◌, ℕ, Bool, true, false, not, ◌&&◌, if◌then◌else◌, List, [], ◌∷◌, get_or, Option, Some, None}
use Rattle.std.specs.Option.{option_map}
use Rattle.keysym_core.specs.Names.{KeysymNames}
use Rattle.compose_model.specs.Table.{Definition, has_key, is_sequence}
use Rattle.compose_model.specs.Nodes.{is_node, number_of, has_edge}
use Rattle.compose_tree.specs.Targets.{leaf_number}
use Rattle.compose_tree.specs.declared.table.NodeId.{NodeId}
use Rattle.compose_tree.specs.declared.table.Target.{Target}
use Rattle.compose_tree.specs.declared.table.Target.TheVariants.{Node, Leaf}
use Rattle.compose_compare.specs.declared.Change.{Change}
use Rattle.compose_compare.specs.declared.Change.TheVariants.{Kept, Changed, Waiting, Removed, Added, NewStart}
use Rattle.compose_compare.specs.Change.{stands}

-- ---- at a node

-- the node with this number
abbrev pub node_id : ℕ → NodeId
node_id n = record { 0 = n }

-- the node with these keys, if the table has it
abbrev pub node_of : List Definition → List ℕ → Option NodeId
node_of table p = if is_node table p then Some (node_id (number_of table p)) else None

-- the node to which a target leads
abbrev pub node_in : Option Target → Option NodeId
node_in (Some (Node node)) = Some node
node_in (Some (Leaf leaf)) = None
node_in None = None

-- the node that is the new table's position after the keys p, if it agreed with the old one along
-- them
abbrev pub position_node : KeysymNames → List Definition → List Definition → List ℕ → Option NodeId
position_node names old new p = option_map (λ v. node_id (number_of new v)) (stands names old new p)

-- no sequence of the old table begins with the first of these keys, and it is not fresh
abbrev pub begins_anew : List ℕ → List Definition → List ℕ → Bool
begins_anew fresh old [] = false
begins_anew fresh old (k ∷ p) = not (has_edge old [] k) && not (has_key fresh k)

-- ---- at a leaf

-- the change of a sequence of the old table: by whether it is kept, and by where its keys lead in
-- the new one
abbrev pub old_change : Bool → Option Target → Change
old_change true target = Kept
old_change false (Some (Leaf leaf)) = Changed
old_change false (Some (Node node)) = Waiting
old_change false None = Removed

-- the change of a sequence of the new table: by where its keys lead in the old one, and by whether
-- it is a new start if it is added
abbrev pub new_change : Option Target → Bool → Option Change
new_change (Some (Leaf leaf)) starts = None
new_change (Some (Node node)) starts = Some (if starts then NewStart else Added)
new_change None starts = Some (if starts then NewStart else Added)

-- each leaf that is reached has its value, and every other leaf the value it had before
abbrev pub IsWritten : {X : Type 0} → X → (List ℕ → X) → List Definition → (List ℕ → Bool) → List X → List X → Type 0
IsWritten default value table reached before after =
    (s : List ℕ) → is_sequence table s ≡ true → get_or after (leaf_number table s) default ≡ (if reached s then value s else get_or before (leaf_number table s) default)
