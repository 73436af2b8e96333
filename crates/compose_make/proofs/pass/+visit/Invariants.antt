use Rattle.std.proofs.Common.{length, ◌≡◌, ◌||◌, ◌-◌, ℕ, Bool, List, take}
use Rattle.compose_model.specs.Nodes.{node, edges}
use Rattle.compose_make.specs.Wanted.{AreLeast, characters_of}
use Rattle.compose_make.proofs.Behind.{is_through}
use Rattle.compose_make.proofs.pass.+visit.Given as goal

abbrev pub decreases-visit : goal.decreases-visit
decreases-visit g l = 32 - length l.keys.now

abbrev pub invariant-loop-index : goal.invariant-loop-index
invariant-loop-index g l = record {
  characters : characters_of l.rows ≡ characters_of l.initial.rows;
  least : (passes : ℕ → List ℕ → Bool) → AreLeast passes l.initial.rows
      → AreLeast
      (λ c v. passes c v
      || is_through (g.U.ComposeTable.definitions l.new) l.repertoire c l.keys
      (take l.index (edges (g.U.ComposeTable.definitions l.new) (node (g.U.ComposeTable.definitions l.new) l.node.0))) v) l.rows;
}
