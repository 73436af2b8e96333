use Rattle.std.proofs.Common.{◌≡◌}
use Rattle.std.specs.Io.KnownBytes.{Keeps}
use Rattle.compose_many.proofs.nonblocking.NonblockingTryPush.try_push.Given as goal

abbrev pub invariant-writes : goal.invariant-writes
invariant-writes g l = record {
  kept : Keeps (g.D.Write.contents l.fn.self.inner) (g.D.Write.contents l.self.inner);
  mark : l.self.mark ≡ l.fn.self.mark;
}
