use Rattle.compose_runs.proofs.looking_up.run_list.Goals as goal

pub returns-clause-outcome : goal.returns-clause-outcome
returns-clause-outcome g c = record { found = c.in_ok-read.read; is_read = c.in_ok-read.ensures.read; is = c.in_ok-list_outcome.ensures }
