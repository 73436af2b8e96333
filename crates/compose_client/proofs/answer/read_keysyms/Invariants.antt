use Rattle.std.proofs.Common.{◌≡◌, ◌+◌, ◌*◌, ◌≤◌, ◌++◌, length}
use Rattle.compose_client.specs.Replies.{AreKeysyms}
use Rattle.compose_client.specs.Giving.{keysyms_at}
use Rattle.compose_client.proofs.answer.read_keysyms.Given as goal

abbrev pub invariant-loop-rest : goal.invariant-loop-rest
invariant-loop-rest l = record {
  read : keysyms_at l.fn.bytes ≡ l.keysyms.items ++ keysyms_at l.rest;
  keysyms : AreKeysyms l.keysyms.items;
  room : 4 * length l.keysyms.items + length l.rest ≤ 124;
}

abbrev pub decreases-loop-rest : goal.decreases-loop-rest
decreases-loop-rest l = length l.rest
