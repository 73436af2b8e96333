use Rattle.std.proofs.Common.{length, ◌≡◌, ◌-◌, take, cond, None, Some}
use Rattle.compose_model.specs.Table.{is_sequence}
use Rattle.compose_model.specs.Nodes.{leaves, node, edges}
use Rattle.compose_compare.specs.Change.{change}
use Rattle.compose_compare.specs.Passes.{IsWritten}
use Rattle.compose_compare.proofs.Written.{is_through}
use Rattle.compose_compare.proofs.passes.+visit_new.Given as goal

abbrev pub decreases-visit_new : goal.decreases-visit_new
decreases-visit_new g l = 32 - length (node (g.U.ComposeTable.definitions l.new.now) l.node.0)

-- what goes on by the edges so far is written
abbrev pub invariant-loop-index : goal.invariant-loop-index
invariant-loop-index g l = record {
  fits : length l.changes ≡ length (leaves (g.U.ComposeTable.definitions l.new));
  written : IsWritten None
      (λ s. cond (is_sequence (g.T.ComposeTable.definitions l.old) s) None (Some (change l.names l.fresh (g.T.ComposeTable.definitions l.old) (g.U.ComposeTable.definitions l.new) s)))
      (g.U.ComposeTable.definitions l.new)
      (is_through (node (g.U.ComposeTable.definitions l.new) l.node.0)
      (take l.index (edges (g.U.ComposeTable.definitions l.new) (node (g.U.ComposeTable.definitions l.new) l.node.0)))) l.initial.changes l.changes;
}
