use Rattle.std.proofs.Common.{◌≡◌, max, vec_len}
use Rattle.compose_hub.specs.Serving.{HasNone}
use Rattle.compose_hub.proofs.server.Server.new.Given as goal

abbrev pub invariant-slots : goal.invariant-slots
invariant-slots l = record {
  filled : vec_len l.slots ≡ l.counter;
  all : l.end ≡ max l.at_once 1;
  none : HasNone l.slots.items;
}
