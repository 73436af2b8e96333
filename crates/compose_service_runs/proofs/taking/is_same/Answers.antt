use Rattle.std.proofs.Common.{◌∙◌, sym}
use Rattle.std.proofs.lemmas.Slice.Eq.{bytes_eq-Decides}
use Rattle.compose_service_runs.proofs.Decided.{same_sources}
use Rattle.compose_service_runs.proofs.taking.is_same.Goals as goal

pub returns-in-Ok-Ok : goal.returns-in-Ok-Ok
returns-in-Ok-Ok c = λ same.
    same_sources c.args.payload.now c.in-Ok-Ok.old.items c.in-Ok-Ok.new.items (record { sources = c.in-Ok.bundle.sources; certificate = c.in-Ok.bundle.certificate.now }) c.args.new.now
    c.in-Ok.ensures c.in-Ok-Ok.ensures.0 c.in-Ok-Ok.ensures'.0
    (sym c.as_slice.ensures.value ∙ (bytes_eq-Decides c.as_slice.result.now c.as_slice-in-Ok-Ok.result.now).0 (sym c.eq.ensures ∙ same) ∙ c.as_slice-in-Ok-Ok.ensures.value)
