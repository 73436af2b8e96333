use Rattle.compose_service_runs.proofs.Decided.{empty_meant, named_meant}
use Rattle.compose_service_runs.proofs.taking.is_meant.Goals as goal

pub returns-then-is_empty : goal.returns-then-is_empty
returns-then-is_empty c = λ a current other. empty_meant (λ name. name.now) a c.args.fresh.now current c.args.is_other c.if-is_empty.ensures other

pub returns : goal.returns
returns c = λ a current other. named_meant (λ name. name.now) a c.args.fresh.now current c.if-is_empty.ensures
