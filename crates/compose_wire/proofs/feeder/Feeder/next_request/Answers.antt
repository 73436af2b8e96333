use Rattle.compose_wire.proofs.Exactly.{gives_request, gives_fault, gives_none}
use Rattle.compose_wire.proofs.feeder.Feeder.next_request.Goals as goal

pub returns : goal.returns
returns c =
    let old = c.args.self.now in
    let new = c.take_first.new.self in
    let so = c.take_first.ensures in
    record {
      so = so;
      request = gives_request old new c.take_first.result so;
      fault = gives_fault old new c.take_first.result so;
      none = gives_none old new c.take_first.result so;
    }
