use Rattle.std.proofs.Common.{length, ◌≡◌, ◌-◌, ℕ, List, take}
use Rattle.compose_model.specs.Nodes.{leaves, node, edges}
use Rattle.compose_compare.specs.declared.Change.TheVariants.{Removed}
use Rattle.compose_compare.specs.Change.{change}
use Rattle.compose_compare.specs.Passes.{IsWritten}
use Rattle.compose_compare.proofs.Written.{is_through}
use Rattle.compose_compare.proofs.passes.+visit_old.Given as goal

abbrev pub decreases-visit_old : goal.decreases-visit_old
decreases-visit_old g l = 32 - length (node (g.T.ComposeTable.definitions l.old.now) l.node.0)

-- what goes on by the edges so far is written
abbrev pub invariant-loop-index : goal.invariant-loop-index
invariant-loop-index g l = record {
  fits : length l.changes ≡ length (leaves (g.T.ComposeTable.definitions l.old));
  written : (fresh : List ℕ)
      → IsWritten Removed (change l.names fresh (g.T.ComposeTable.definitions l.old) (g.U.ComposeTable.definitions l.new)) (g.T.ComposeTable.definitions l.old)
      (is_through (node (g.T.ComposeTable.definitions l.old) l.node.0)
      (take l.index (edges (g.T.ComposeTable.definitions l.old) (node (g.T.ComposeTable.definitions l.old) l.node.0)))) l.initial.changes l.changes;
}
