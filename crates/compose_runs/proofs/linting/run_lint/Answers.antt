use Rattle.compose_runs.proofs.linting.run_lint.Goals as goal

pub returns-clause-outcome : goal.returns-clause-outcome
returns-clause-outcome g c = record {
  files = c.in_ok-read.read;
  read = c.in_ok-read.ensures.read;
  is = c.in_ok-lint_outcome.ensures;
}
