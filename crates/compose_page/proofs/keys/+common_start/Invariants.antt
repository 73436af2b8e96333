use Rattle.std.proofs.Common.{length}
use Rattle.compose_page.proofs.keys.+common_start.Given as goal

abbrev pub decreases-common_start : goal.decreases-common_start
decreases-common_start l = length l.keys.now
