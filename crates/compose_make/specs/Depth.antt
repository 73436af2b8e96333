-- The greatest depth of a node.
use Rattle.std.specs.Prelude.{◌≡◌, ℕ, List, length, IsTrue}
use Rattle.compose_model.specs.Table.{Definition}
use Rattle.compose_model.specs.Nodes.{is_node}
use Rattle.compose_model.specs.Certificate.{is_bound}

-- no node is longer, and one is as long
pub record IsGreatestDepth (table : List Definition) (depth : ℕ) : Type 0 where
  pub bounds : IsTrue (is_bound table depth)
  pub met : (p : List ℕ) × IsTrue (is_node table p) × (length p ≡ depth)
