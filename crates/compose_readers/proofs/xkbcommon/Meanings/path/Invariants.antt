use Rattle.std.proofs.Common.{length}
use Rattle.compose_readers.proofs.xkbcommon.Meanings.path.Given as goal

abbrev pub decreases-loop-first : goal.decreases-loop-first
decreases-loop-first l = length l.rest
