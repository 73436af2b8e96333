use Rattle.std.proofs.Common.{◌≡◌, take, string_bytes}
use Rattle.std.specs.Prelude.{flat_map}
use Rattle.compose_model.specs.Nodes.{node, edges}
use Rattle.compose_listing.specs.Next.{next_line}
use Rattle.compose_listing.proofs.next.lines_from.Given as goal

-- the lines for the edges so far
abbrev pub invariant-loop-index : goal.invariant-loop-index
invariant-loop-index g l = string_bytes l.lines
    ≡ flat_map (next_line l.form l.names (g.T.ComposeTable.definitions l.table) (node (g.T.ComposeTable.definitions l.table) l.node.0))
    (take l.index (edges (g.T.ComposeTable.definitions l.table) (node (g.T.ComposeTable.definitions l.table) l.node.0)))
