use Rattle.std.proofs.Common.{◌≡◌, ℕ, ◌<◌, ◌≤◌, List, length, take, refl, ◌∙◌, subst, arith}
use Rattle.std.specs.Io.KnownBytes.{Appends}
use Rattle.compose_wire.specs.Frames.{reply_bytes}
use Rattle.compose_serve.specs.Ends.{max_frames}
use Rattle.compose_wire.specs.Requests.{request_of}
use Rattle.compose_serve.proofs.Going.{going_start, going_read, going_answered, ends_in_reply, ends_at, ends_full}
use Rattle.compose_serve.proofs.serving.serve.Goals as goal

pub answers-init : goal.answers-init
answers-init g c = record {
  going = going_start g.S.Responder.reading (g.S.Responder.state c.args.service.now) (g.R.Pull.left c.args.reader.now) (g.W.Push.written c.args.writer.now) c.new-feeder.result c.new-feeder.ensures;
  read_mark = refl;
  write_mark = refl;
}

pub returns-in-Err-push_all-clause-ends : goal.returns-in-Err-push_all-clause-ends
returns-in-Err-push_all-clause-ends g c =
    let so = c.in-Ok.ensures.so in
    let rest = so.0 in
    let left'' = g.R.Pull.left c.next_request.new.reader in
    let going = going_read _ _ _ _ _ _ _ _ left'' c.answers.feeder rest c.answers.invariant.going so.1 in
    let reported = c.answer_into.ensures in
    let bytes : c.as_slice.result.now ≡ reply_bytes reported.0 = c.as_slice.ensures.value ∙ c.put_reply-bytes.ensures.value reported.0 reported.2 in
    let w = c.in-Err-push_all.ensures.err in
    let test = c.answers-test.true in
    let few : c.answers.count < max_frames = omega (arith, test) in
    let written'' = g.W.Push.written c.push_all.new.writer in
    ends_in_reply _ _ _ _ _ _ (g.W.Push.written c.answers.writer) _ rest c.next_request.new.feeder (request_of c.in-Ok.request) reported.0 (g.S.Responder.state c.answer_into.new.self) written''
    (g.R.Pull.failed c.next_request.new.reader) (g.W.Push.failed c.push_all.new.writer) w.0 going few so.2.0 so.2.1 reported.1
    (subst (λ (b : List ℕ). w.0 < length b) bytes w.1) (subst (λ (b : List ℕ). Appends (g.W.Push.written c.answers.writer) written'' (take w.0 b)) bytes w.2) c.in-Err-push_all.ensures.marked

pub returns-in-Err-clause-ends : goal.returns-in-Err-clause-ends
returns-in-Err-clause-ends g c =
    let so = c.in-Err.ensures.so in
    let left'' = g.R.Pull.left c.next_request.new.reader in
    let going = going_read _ _ _ _ _ _ _ _ left'' c.answers.feeder so.0 c.answers.invariant.going so.1 in
    let test = c.answers-test.true in
    let few : c.answers.count ≤ max_frames = omega (arith, test) in
    ends_at _ _ _ _ _ _ (g.W.Push.written c.answers.writer) _ so.0 going few c.in-Err.stop c.end_with.result c.next_request.new.feeder (g.W.Push.written c.end_with.new.writer)
    (g.R.Pull.failed c.next_request.new.reader) (g.W.Push.failed c.end_with.new.writer) so.2 c.end_with.ensures.so

pub answers-preserved : goal.answers-preserved
answers-preserved g c =
    let so = c.in-Ok.ensures.so in
    let rest = so.0 in
    let left'' = g.R.Pull.left c.next_request.new.reader in
    let going = going_read _ _ _ _ _ _ _ _ left'' c.answers.feeder rest c.answers.invariant.going so.1 in
    let reported = c.answer_into.ensures in
    let bytes : c.as_slice.result.now ≡ reply_bytes reported.0 = c.as_slice.ensures.value ∙ c.put_reply-bytes.ensures.value reported.0 reported.2 in
    let w = c.in-Ok-push_all.ensures.ok in
    let written'' = g.W.Push.written c.push_all.new.writer in
    let request_reads = c.in-Ok.ensures.mark in
    record {
      going =
          going_answered _ _ _ _ _ _ (g.W.Push.written c.answers.writer) _ rest c.next_request.new.feeder (request_of c.in-Ok.request) reported.0
          (g.S.Responder.state c.answer_into.new.self) written'' going so.2.0 so.2.1 reported.1
          (subst (λ (b : List ℕ). Appends (g.W.Push.written c.answers.writer) written'' b) bytes w);
      read_mark = request_reads (λ e. cc) ∙ c.answers.invariant.read_mark;
      write_mark = c.in-Ok-push_all.ensures.kept ∙ c.answers.invariant.write_mark;
    }

pub returns-in-Ok-next_request-clause-ends : goal.returns-in-Ok-next_request-clause-ends
returns-in-Ok-next_request-clause-ends g c =
    let so = c.in-Ok-next_request.ensures.so in
    let left'' = g.R.Pull.left c.next_request-2.new.reader in
    let going = going_read _ _ _ _ _ _ _ _ left'' c.answers.feeder so.0 c.answers.invariant.going so.1 in
    let all : c.answers.count ≡ max_frames = omega arith in
    ends_full _ _ _ _ _ _ (g.W.Push.written c.answers.writer) _ so.0 c.next_request-2.new.feeder (request_of c.in-Ok-next_request.field-0)
    (g.R.Pull.failed c.next_request-2.new.reader) (g.W.Push.failed c.answers.writer) going all so.2.0 so.2.1

pub returns-in-Err-next_request-clause-ends : goal.returns-in-Err-next_request-clause-ends
returns-in-Err-next_request-clause-ends g c =
    let so = c.in-Err-next_request.ensures.so in
    let left'' = g.R.Pull.left c.next_request-2.new.reader in
    let going = going_read _ _ _ _ _ _ _ _ left'' c.answers.feeder so.0 c.answers.invariant.going so.1 in
    let few : c.answers.count ≤ max_frames = omega arith in
    ends_at _ _ _ _ _ _ (g.W.Push.written c.answers.writer) _ so.0 going few c.in-Err-next_request.stop c.end_with-in-Err-next_request.result c.next_request-2.new.feeder
    (g.W.Push.written c.end_with-in-Err-next_request.new.writer)
    (g.R.Pull.failed c.next_request-2.new.reader) (g.W.Push.failed c.end_with-in-Err-next_request.new.writer) so.2 c.end_with-in-Err-next_request.ensures.so
