use Rattle.compose_service_runs.proofs.taking.is_unreadable.Goals as goal

pub returns : goal.returns
returns g c = λ refused. (c.in-Ok.names, c.in-Ok.ensures, (_, c.in-Ok-read_bundle.ensures, c.is_refused.ensures refused))
