use Rattle.std.proofs.Common.{subst, inl, inr, string_bytes}
use Rattle.std.specs.Prelude.{Err}
use Rattle.compose_folder.specs.Content.{File, IsHeld}
use Rattle.compose_input.specs.Texts.{IsRead}
use Rattle.compose_report.proofs.Results.{ok_map}
use Rattle.compose_given.proofs.Failing.{err_map, handed}
use Rattle.compose_service_runs.specs.Clients.{FailsLoad, IsLoadRun, IsUnsendable, LoadsTable, bundle_of}
use Rattle.compose_service_runs.proofs.client.run_load.Goals as goal

pub returns-in_err-certificate-clause-fault : goal.returns-in_err-certificate-clause-fault
returns-in_err-certificate-clause-fault g c =
    let arguments = c.args.arguments.now in let fault = c.in_err-certificate.field-0.0 in
    handed (FailsLoad c.args.files.now.holds c.args.environment.now arguments) c.from_residual-in_err-certificate.result fault c.from_residual-in_err-certificate.ensures.1
    (inr (inr (inl (
      (c.in_ok-new.new, c.in_ok-new.ensures.read),
      subst (λ f. IsRead f arguments.certificate.now (Err fault)) c.in_ok-new.ensures.kept c.in_err-certificate.ensures.reads,
    ))))

pub returns-clause-sent : goal.returns-clause-sent
returns-clause-sent g c =
    let arguments = c.args.arguments.now in let new = c.in_ok-new.new in let bytes = c.in_ok-certificate.certificate.items in
    ok_map (LoadsTable new.table c.deref.result.now (string_bytes new.notes)) (IsLoadRun c.args.files.now.holds c.args.environment.now arguments) c.noted_load.result
    (λ sent loads. record {
      new = new;
      is_new = c.in_ok-new.ensures.read;
      certificate = bytes;
      is_certificate = subst (λ f. IsHeld f arguments.certificate.now (File bytes)) c.in_ok-new.ensures.kept c.in_ok-certificate.ensures.reads;
      loads = subst (λ b. LoadsTable new.table b (string_bytes new.notes) sent) c.deref.ensures.value loads;
    }) c.noted_load.ensures.sent

pub returns-clause-fault : goal.returns-clause-fault
returns-clause-fault g c =
    let arguments = c.args.arguments.now in let new = c.in_ok-new.new in let bytes = c.in_ok-certificate.certificate.items in
    err_map (IsUnsendable (bundle_of new.table c.deref.result.now)) (FailsLoad c.args.files.now.holds c.args.environment.now arguments) c.noted_load.result
    (λ fault unsendable. inr (inr (inr (record {
      new = new;
      is_new = c.in_ok-new.ensures.read;
      certificate = bytes;
      is_certificate = subst (λ f. IsHeld f arguments.certificate.now (File bytes)) c.in_ok-new.ensures.kept c.in_ok-certificate.ensures.reads;
      unsendable = subst (λ b. IsUnsendable (bundle_of new.table b) fault) c.deref.ensures.value unsendable;
    })))) c.noted_load.ensures.fault
