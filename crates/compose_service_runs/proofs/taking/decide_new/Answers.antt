use Rattle.std.proofs.Common.{◌≡◌, sym, subst, map}
use Rattle.std.specs.Prelude.{Some}
use Rattle.compose_report.proofs.Results.{ok_map}
use Rattle.compose_runs.specs.Updating.{IsUpdateRun}
use Rattle.compose_service_runs.specs.Taking.{Becomes, Decides}
use Rattle.compose_service_runs.proofs.Decided.{becomes}
use Rattle.compose_service_runs.proofs.taking.decide_new.Goals as goal

pub returns : goal.returns
returns g c = λ a current is kept other.
    let fresh = map (λ name. name.now) c.args.wanted.fresh.now in let files = c.args.files.now in let run = c.in_ok-run.run' in let meant = c.is_meant-is_meant.result in
    ok_map (Decides meant c.args.fresh.now (λ r. r ≡ run) files) (Becomes a fresh (Some current) files) c.taking_of.result
    (λ taking d. becomes a fresh (Some current) files meant c.args.fresh.now run taking (c.is_meant-is_meant.ensures a current other) (sym kept)
    (subst (λ payload. IsUpdateRun files fresh (Some payload) run) (sym is) c.in_ok-run.ensures.run) d) c.taking_of.ensures
