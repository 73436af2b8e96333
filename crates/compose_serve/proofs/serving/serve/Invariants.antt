use Rattle.std.proofs.Common.{◌≡◌}
use Rattle.compose_serve.proofs.Going.{Going}
use Rattle.compose_serve.proofs.serving.serve.Given as goal

abbrev pub invariant-answers : goal.invariant-answers
invariant-answers g l = record {
  going : Going g.S.Responder.reading (g.S.Responder.state l.fn.service) (g.R.Pull.left l.fn.reader) (g.W.Push.written l.fn.writer) (g.S.Responder.state l.service) (g.R.Pull.left l.reader)
      (g.W.Push.written l.writer) l.count l.feeder;
  read_mark : g.R.Pull.failed l.reader ≡ g.R.Pull.failed l.fn.reader;
  write_mark : g.W.Push.failed l.writer ≡ g.W.Push.failed l.fn.writer;
}
