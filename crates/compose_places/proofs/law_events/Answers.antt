use Rattle.compose_places.proofs.WrittenEvents.{events_written}
use Rattle.compose_places.proofs.law_events.Goals as goal

pub returns : goal.returns
returns c = λ names sources root table read. events_written names sources root table read
