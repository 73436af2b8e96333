use Rattle.compose_service_runs.proofs.client.run_session.Goals as goal

pub returns-clause-started : goal.returns-clause-started
returns-clause-started g c = record {
  names = c.in_ok-names.names;
  are_names = c.in_ok-names.ensures.read;
  is = c.in_ok-session_of.ensures;
}
