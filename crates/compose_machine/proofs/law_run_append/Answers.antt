use Rattle.compose_machine.proofs.Runs as runs
use Rattle.compose_machine.proofs.law_run_append.Goals as goal

pub returns : goal.returns
returns c = record {
  joined = runs.joined;
  parted = λ reading old new first second replies h. let p = runs.parted reading old new first second replies h in (p.mid, p.first, p.second, p.both, p.before, p.after);
}
