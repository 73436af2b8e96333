use Rattle.compose_many.proofs.Owned.{ended_own_none}
use Rattle.compose_many.proofs.Leaves.{no_session_stays}
use Rattle.compose_many.proofs.laws.law_own_sessions.Goals as goal

pub returns-clause-owns_none : goal.returns-clause-owns_none
returns-clause-owns_none c = ended_own_none

pub returns-clause-none_stays : goal.returns-clause-none_stays
returns-clause-none_stays c = no_session_stays
