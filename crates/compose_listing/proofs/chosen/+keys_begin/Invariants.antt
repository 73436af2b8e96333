use Rattle.std.proofs.Common.{length}
use Rattle.compose_listing.proofs.chosen.+keys_begin.Given as goal

abbrev pub decreases-keys_begin : goal.decreases-keys_begin
decreases-keys_begin l = length l.prefix.now
