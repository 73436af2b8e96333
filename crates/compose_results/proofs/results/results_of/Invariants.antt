use Rattle.compose_results.specs.Results.{AreFor}
use Rattle.compose_results.proofs.results.results_of.Given as goal

-- the result keysyms of the leaves so far
abbrev pub invariant-loop-leaf : goal.invariant-loop-leaf
invariant-loop-leaf g l = AreFor l.names l.sources l.lines (g.T.ComposeTable.definitions l.table) l.leaf l.results.items
