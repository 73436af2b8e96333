use Rattle.compose_service_runs.proofs.Merges.{from_same, from_merged}
use Rattle.compose_service_runs.proofs.taking.is_known.Goals as goal

pub returns-then-is_same : goal.returns-then-is_same
returns-then-is_same c = λ current is yes. from_same current c.args.payload.now c.args.new.now is (c.is_same.ensures yes)

pub returns-else-is_same : goal.returns-else-is_same
returns-else-is_same c = λ current is yes. from_merged current c.args.payload.now c.args.new.now is (c.was_merged_with.ensures yes)
