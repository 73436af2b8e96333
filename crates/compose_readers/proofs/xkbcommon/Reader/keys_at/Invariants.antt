use Rattle.std.proofs.Common.{◌-◌, length}
use Rattle.compose_readers.proofs.xkbcommon.Reader.keys_at.Given as goal

abbrev pub decreases-loop-behind : goal.decreases-loop-behind
decreases-loop-behind l = 10 - length l.keys.items
