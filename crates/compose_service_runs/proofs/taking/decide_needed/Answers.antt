use Rattle.std.proofs.Common.{map}
use Rattle.std.specs.Prelude.{Some}
use Rattle.compose_report.proofs.Results.{ok_map}
use Rattle.compose_service_runs.specs.Taking.{BecomesBeside, BecomesMerged}
use Rattle.compose_service_runs.proofs.Merges.{beside_merged, beside_unsaid, unsaid}
use Rattle.compose_service_runs.proofs.taking.decide_needed.Goals as goal

pub returns-then-wanted : goal.returns-then-wanted
returns-then-wanted g c = λ a current is kept other.
    let fresh = map (λ name. name.now) c.args.wanted.fresh.now in let files = c.args.files.now in let merge = c.args.wanted.merge in
    ok_map (BecomesMerged a fresh current files) (BecomesBeside merge a fresh current files) c.decide_merged.result
    (λ decision becomes. beside_merged merge a fresh current files decision c.if-wanted.true becomes) (c.decide_merged.ensures a current is kept other)

pub returns : goal.returns
returns g c = λ a current is kept other.
    let fresh = map (λ name. name.now) c.args.wanted.fresh.now in let files = c.args.files.now in
    beside_unsaid c.args.wanted.merge a fresh current files c.unnoted.result c.if-wanted.false
    (unsaid a fresh (Some current) files c.in_ok-taking.taking c.unnoted.result c.unnoted.ensures (c.in_ok-taking.ensures a current is kept other))
