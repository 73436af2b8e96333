use Rattle.std.proofs.Common.{map, false, [], refl}
use Rattle.std.specs.Prelude.{None}
use Rattle.compose_service_runs.specs.Taking.{asked_by}
use Rattle.compose_service_runs.proofs.Decided.{becomes, none_meant}
use Rattle.compose_service_runs.proofs.Merges.{unsaid}
use Rattle.compose_service_runs.proofs.taking.decide_first.Goals as goal

pub returns : goal.returns
returns g c =
    let fresh = map (λ name. name.now) c.args.wanted.fresh.now in let files = c.args.files.now in let run = c.in_ok-run.run' in let taking = c.in_ok-taking.taking in
    let a = asked_by c.args.wanted files in
    unsaid a fresh None files taking c.unnoted.result c.unnoted.ensures (becomes a fresh None files false [] run taking (none_meant a fresh) refl c.in_ok-run.ensures.run c.in_ok-taking.ensures)
