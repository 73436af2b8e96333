use Rattle.std.proofs.Common.{◌≡◌, ℕ, List, map, subst, sym}
use Rattle.std.specs.Prelude.{Ok, Some}
use Rattle.compose_report.proofs.Results.{ok_map}
use Rattle.compose_table_file.specs.Reading.{table_of}
use Rattle.compose_table_file.specs.TableFile.{FileHas}
use Rattle.compose_service_runs.specs.Taking.{DecidesBeside, DecidesTaking, IsInUse, asked_by}
use Rattle.compose_service_runs.proofs.taking.decide_taking.Goals as goal

pub returns-in_ok-current-in-Ok-Some-clause-taking : goal.returns-in_ok-current-in-Ok-Some-clause-taking
returns-in_ok-current-in-Ok-Some-clause-taking g c =
    let wanted = c.args.wanted in let old = c.args.files.now in let new = c.decide_beside.new.files in let asked = asked_by wanted old in
    let fresh = map (λ name. name.now) wanted.fresh.now in let current = table_of c.in_ok-current-in-Ok-Some.current in let bytes = c.in-Ok-Some.stored in
    let is : c.args.stored ≡ Ok (Some bytes) = (let outer = c.in-Ok-Some.is in let inner = c.in-Ok-Some.field-0-is in cc) in
    ok_map (DecidesBeside asked fresh current old new) (DecidesTaking asked fresh c.args.stored old new) c.decide_beside.result
    (λ decision beside. record {
      current = Some current;
      in_use = subst (λ stored. IsInUse stored (Some current)) (sym is) (subst (λ (held : List ℕ). FileHas held current) c.deref.ensures.value c.in_ok-current-in-Ok-Some.ensures);
      needs = beside.needs;
      becomes = beside.becomes;
    }) c.decide_beside.ensures
