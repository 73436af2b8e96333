use Rattle.std.proofs.Common.{map, sym, refl}
use Rattle.std.specs.Prelude.{Some}
use Rattle.compose_report.proofs.Results.{ok_map}
use Rattle.compose_table_file.specs.Reading.{table_of}
use Rattle.compose_service_runs.specs.Taking.{DecidesBeside, IsDecision, asked_by}
use Rattle.compose_service_runs.proofs.Decided.{needed_by}
use Rattle.compose_service_runs.proofs.taking.decide_beside.Goals as goal

pub returns : goal.returns
returns g c =
    let wanted = c.args.wanted in let old = c.args.files.now in let between = c.need_names.new.files in let new = c.need.new.files in
    let asked = asked_by wanted old in let current = table_of c.args.current in let fresh = map (λ name. name.now) wanted.fresh.now in
    ok_map (IsDecision asked fresh (Some current) new) (DecidesBeside asked fresh current old new) c.decide_needed.result
    (λ decision becomes. record {
      needs = needed_by wanted.merge wanted.has_names wanted.has_repertoire asked current old between new refl c.in_ok-need_names.ensures c.need.ensures;
      becomes = becomes;
    }) (c.decide_needed.ensures asked current refl (sym c.deref.ensures.value) c.is_other-is_other.ensures)
