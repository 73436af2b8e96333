use Rattle.compose_many.proofs.Serving.{each_has_its_own, turns_are_served, served_one_after_another}
use Rattle.compose_many.proofs.laws.law_connections.Goals as goal

pub returns-clause-own : goal.returns-clause-own
returns-clause-own c = each_has_its_own

pub returns-clause-turn : goal.returns-clause-turn
returns-clause-turn c = turns_are_served

pub returns-clause-append : goal.returns-clause-append
returns-clause-append c = served_one_after_another
