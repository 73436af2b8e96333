use Rattle.std.proofs.Common.{length}
use Rattle.compose_page.proofs.keys.+common_end.Given as goal

abbrev pub decreases-common_end : goal.decreases-common_end
decreases-common_end l = length l.keys.now
