use Rattle.compose_machine.proofs.Runs as runs
use Rattle.compose_machine.proofs.law_run_history.Goals as goal

pub returns : goal.returns
returns c = record {
  history = λ reading old new requests replies h. let p = runs.history_of reading old new requests replies h in (p.history, p.asked, p.expected, p.is);
  run = runs.is_run;
}
