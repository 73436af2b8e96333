use Rattle.compose_client.proofs.Exactly.{gives_reply, gives_fault, gives_bad_payload, gives_none}
use Rattle.compose_client.proofs.feeder.ReplyFeeder.next_reply.Goals as goal

pub returns : goal.returns
returns c =
    let old = c.args.self.now in
    let new = c.take_first.new.self in
    let so = c.take_first.ensures in
    record {
      so = so;
      reply = gives_reply old new c.take_first.result so;
      fault = gives_fault old new c.take_first.result so;
      bad_payload = gives_bad_payload old new c.take_first.result so;
      none = gives_none old new c.take_first.result so;
    }
