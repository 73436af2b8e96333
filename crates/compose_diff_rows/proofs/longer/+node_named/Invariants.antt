use Rattle.std.proofs.Common.{length}
use Rattle.compose_diff_rows.proofs.longer.+node_named.Given as goal

abbrev pub decreases-node_named : goal.decreases-node_named
decreases-node_named g l = length l.keys.now
