use Rattle.std.proofs.Common.{[]}
use Rattle.std.specs.Prelude.{true, Err}
use Rattle.compose_report.specs.Outcomes.{IsWorded}
use Rattle.compose_report.proofs.Results.{ok_map}
use Rattle.compose_runs.specs.Linting.{IsLintRefusal}
use Rattle.compose_runs.proofs.linting.refusal_outcome.Goals as goal

pub returns : goal.returns
returns c =
    ok_map (IsWorded c.args.numbered true c.of-given.result (Err c.args.refusal)) (IsLintRefusal c.args.numbered c.args.names.now c.args.refusal) c.worded_refusal.result
    (λ outcome reported. record { given = c.of-given.result; parts = c.of-given.ensures [] tt; is = reported }) c.worded_refusal.ensures
