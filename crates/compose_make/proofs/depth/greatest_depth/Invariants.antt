use Rattle.std.proofs.Common.{◌≡◌, List, ℕ, true, length, take}
use Rattle.std.specs.Prelude.{nat_le}
use Rattle.std.specs.List.{list_all}
use Rattle.compose_model.specs.Nodes.{nodes, is_node}
use Rattle.compose_make.proofs.depth.greatest_depth.Given as goal

abbrev pub invariant-loop-number : goal.invariant-loop-number
invariant-loop-number g l = record {
  bounds : list_all (λ p. nat_le (length p) l.greatest) (take l.number (nodes (g.U.ComposeTable.definitions l.new))) ≡ true;
  met : (p : List ℕ) × (is_node (g.U.ComposeTable.definitions l.new) p ≡ true) × (length p ≡ l.greatest);
}
