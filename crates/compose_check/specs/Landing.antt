-- The node or leaf to which a key leads, and the text that it commits, by the key's target.
-- Definitions for the contracts of private functions.
use Rattle.std.specs.Prelude.{ℕ, Bool, false, not, ◌==◌, ◌<◌, List, [], length, Option, Some, None, unwrap_or}
use Rattle.keysym_core.specs.Names.{KeysymNames, text}
use Rattle.compose_model.specs.Table.{Definition}
use Rattle.compose_model.specs.Nodes.{leaves}
use Rattle.compose_tree.specs.declared.table.Target.{Target}
use Rattle.compose_tree.specs.declared.table.Target.TheVariants.{Node, Leaf}
use Rattle.compose_tree.specs.Targets.{leaf_text}

-- a leaf is one of the table's
abbrev pub IsOf : List Definition → Target → Type 0
IsOf table (Node n) = Unit {0}
IsOf table (Leaf l) = l.0 < length (leaves table)

abbrev pub IsLandingOf : List Definition → Option Target → Type 0
IsLandingOf table None = Unit {0}
IsLandingOf table (Some t) = IsOf table t

-- a leaf commits its text
abbrev pub target_text : List Definition → Target → List ℕ
target_text table (Node n) = []
target_text table (Leaf l) = unwrap_or (leaf_text table l.0) []

-- a key that leads nowhere commits its own text at rest
abbrev pub landing_text : KeysymNames → List Definition → ℕ → Option Target → List ℕ
landing_text names table k (Some t) = target_text table t
landing_text names table k None = text names k

-- a key that leads nowhere from the node with this number cancels the pending keysyms, unless the
-- node is the root
abbrev pub landing_cancels : ℕ → Option Target → Bool
landing_cancels n (Some t) = false
landing_cancels n None = not (n == 0)

-- the number of the node that is pending then: the root after a leaf, and after a key that leads
-- nowhere
abbrev pub landing_number : Option Target → ℕ
landing_number (Some (Node n)) = n.0
landing_number (Some (Leaf l)) = 0
landing_number None = 0
