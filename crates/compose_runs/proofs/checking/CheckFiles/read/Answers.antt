use Rattle.std.proofs.Common.{◌∙◌, subst, inl, inr, map}
use Rattle.compose_folder.specs.Content.{File, IsHeld}
use Rattle.std.specs.Prelude.{Err}
use Rattle.compose_given.proofs.Failing.{handed}
use Rattle.compose_input.specs.Texts.{IsRead}
use Rattle.compose_runs.specs.Faults.{FailsCheck}
use Rattle.compose_runs.proofs.checking.CheckFiles.read.Goals as goal

pub returns-clause-read : goal.returns-clause-read
returns-clause-read g c = record {
  both = c.in_ok-both.ensures.read;
  repertoire = subst (λ f. IsHeld f c.args.paths.now.repertoire.now (File c.in_ok-repertoire.repertoire.items)) c.in_ok-both.ensures.kept c.in_ok-repertoire.ensures.reads;
  certificate = subst (λ f. IsHeld f c.args.paths.now.certificate.now (File c.in_ok-certificate.certificate.items)) (c.in_ok-repertoire.ensures.kept ∙ c.in_ok-both.ensures.kept) c.in_ok-certificate.ensures.reads;
}

pub returns-in_err-both-clause-fault : goal.returns-in_err-both-clause-fault
returns-in_err-both-clause-fault g c =
    let fault = c.in_err-both.field-0.0 in
    handed (FailsCheck c.args.files.now.holds (map (λ name. name.now) c.args.names.now) c.args.paths.now) c.from_residual.result fault c.from_residual.ensures.1 (inr (inl c.in_err-both.ensures.fault))

pub returns-in_err-repertoire-clause-fault : goal.returns-in_err-repertoire-clause-fault
returns-in_err-repertoire-clause-fault g c =
    let fault = c.in_err-repertoire.field-0.0 in let path = c.args.paths.now.repertoire.now in
    handed (FailsCheck c.args.files.now.holds (map (λ name. name.now) c.args.names.now) c.args.paths.now) c.from_residual-in_err-repertoire.result fault c.from_residual-in_err-repertoire.ensures.1
    (inr (inr ((c.in_ok-both.both, c.in_ok-both.ensures.read), inl (subst (λ f. IsRead f path (Err fault)) c.in_ok-both.ensures.kept c.in_err-repertoire.ensures.reads))))

pub returns-in_err-certificate-clause-fault : goal.returns-in_err-certificate-clause-fault
returns-in_err-certificate-clause-fault g c =
    let fault = c.in_err-certificate.field-0.0 in let path = c.args.paths.now.certificate.now in let bytes = c.in_ok-repertoire.repertoire.items in
    handed (FailsCheck c.args.files.now.holds (map (λ name. name.now) c.args.names.now) c.args.paths.now) c.from_residual-in_err-certificate.result fault c.from_residual-in_err-certificate.ensures.1
    (inr (inr (
      (c.in_ok-both.both, c.in_ok-both.ensures.read),
      inr (
        (bytes, subst (λ f. IsHeld f c.args.paths.now.repertoire.now (File bytes)) c.in_ok-both.ensures.kept c.in_ok-repertoire.ensures.reads),
        subst (λ f. IsRead f path (Err fault)) (c.in_ok-repertoire.ensures.kept ∙ c.in_ok-both.ensures.kept) c.in_err-certificate.ensures.reads,
      ),
    )))
