use Rattle.std.proofs.Common.{◌≡◌, ◌≤◌, List, length, map, take, vec_len, vec_capacity}
use Rattle.compose_wire.specs.Messages as words
use Rattle.compose_wire.specs.Requests.{request_of}
use Rattle.compose_machine.specs.Machine.{Run}
use Rattle.compose_machine.specs.Late.{seen}
use Rattle.compose_service.specs.Answered.{AreReplies}
use Rattle.compose_service.specs.Reading.{reading}
use Rattle.compose_service.proofs.service.Service.run.Given as goal

abbrev pub invariant-loop-request : goal.invariant-loop-request
invariant-loop-request g l = record {
  answered : (expected : List words.Reply) × Run reading (seen l.fn.self) (map request_of (take l.request-index l.requests)) expected (seen l.self) × AreReplies l.replies.items expected;
  many : vec_len l.replies ≡ l.request-index;
  room : length l.requests ≤ vec_capacity l.replies;
}
