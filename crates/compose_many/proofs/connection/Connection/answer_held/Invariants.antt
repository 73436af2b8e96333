use Rattle.std.proofs.Common.{◌≡◌, List, false, length}
use Rattle.compose_many.specs.Connection.{Event, exchanges, loads}
use Rattle.compose_many.specs.Owners.{owners_by}
use Rattle.compose_many.specs.Steps.{AreAnswers}
use Rattle.compose_many.proofs.connection.Connection.answer_held.Given as goal

abbrev pub invariant-answers : goal.invariant-answers
invariant-answers g l = record {
  so : (events : List Event) × AreAnswers l.limit g.S.Responder.reading (g.S.Responder.state l.fn.service) (g.S.Responder.state l.service) l.fn.self l.self events × (loads events ≡ 0)
      × (l.owners.list ≡ owners_by l.number l.fn.owners.list (exchanges events));
  goes_on : l.self.refused ≡ false;
}

abbrev pub decreases-answers : goal.decreases-answers
decreases-answers g l = length l.self.held
