use Rattle.std.proofs.Common.{◌≡◌, ◌-◌, length}
use Rattle.compose_wire.specs.Frames.{max_frame}
use Rattle.compose_serve.specs.Streams.{SameStream}
use Rattle.compose_serve.proofs.next.next_request.Given as goal

abbrev pub invariant-pieces : goal.invariant-pieces
invariant-pieces g l = record {
  stream : SameStream l.fn.feeder (g.R.Pull.left l.fn.reader) l.feeder (g.R.Pull.left l.reader);
  mark : g.R.Pull.failed l.reader ≡ g.R.Pull.failed l.fn.reader;
}

abbrev pub decreases-pieces : goal.decreases-pieces
decreases-pieces g l = max_frame - length l.feeder
