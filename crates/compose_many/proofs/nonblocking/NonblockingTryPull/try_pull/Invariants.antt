use Rattle.std.proofs.Common.{◌≡◌}
use Rattle.std.specs.Io.KnownBytes.{Keeps}
use Rattle.compose_many.proofs.nonblocking.NonblockingTryPull.try_pull.Given as goal

abbrev pub invariant-reads : goal.invariant-reads
invariant-reads g l = record {
  kept : Keeps (g.D.Read.remaining l.fn.self.inner) (g.D.Read.remaining l.self.inner);
  mark : l.self.mark ≡ l.fn.self.mark;
}
