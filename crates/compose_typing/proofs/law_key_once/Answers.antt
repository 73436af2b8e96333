use Rattle.compose_typing.proofs.TypedOnce.{asked_once, closed_once, lost_once, pending_again}
use Rattle.compose_typing.proofs.law_key_once.Goals as goal

pub returns : goal.returns
returns c = record { asked = asked_once; lost = lost_once; closed = closed_once; again = pending_again }
