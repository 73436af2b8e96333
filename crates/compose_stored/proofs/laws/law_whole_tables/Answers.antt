use Rattle.compose_stored.proofs.Whole.{rewritten_whole, stored_whole, taken_whole}
use Rattle.compose_stored.proofs.laws.law_whole_tables.Goals as goal

pub returns-clause-stored : goal.returns-clause-stored
returns-clause-stored c = stored_whole

pub returns-clause-rewritten : goal.returns-clause-rewritten
returns-clause-rewritten c = rewritten_whole

pub returns-clause-taken : goal.returns-clause-taken
returns-clause-taken c = taken_whole
