use Rattle.std.proofs.Common.{◌∙◌, subst, inl, inr, map}
use Rattle.std.specs.Prelude.{Err, codes}
use Rattle.compose_folder.specs.Content.{File, IsHeld}
use Rattle.compose_input.specs.Faults.{FailNames}
use Rattle.compose_input.specs.Names.{AreNames}
use Rattle.compose_input.specs.Texts.{IsRead}
use Rattle.compose_given.proofs.Failing.{handed}
use Rattle.compose_given.specs.GivenTable.{FailsGivenTable, IsGivenTable}
use Rattle.compose_given.specs.Names.{names_for}
use Rattle.compose_service_runs.specs.ServingFaults.{FailsServe}
use Rattle.compose_service_runs.proofs.serving.NotedFiles.read.Goals as goal

pub returns-clause-read : goal.returns-clause-read
returns-clause-read g c =
    let folder = c.args.files.now.holds in let names = map (λ name. name.now) c.args.names.now in let served = c.args.served.now in
    let names_kept = c.in_ok-names.ensures.kept in let table_kept = c.in_ok-noted.ensures.kept ∙ names_kept in
    record {
      are_names = subst (λ b. AreNames folder (names_for b names) c.in_ok-names.names) c.is_file.ensures c.in_ok-names.ensures.read;
      is_table = subst (λ f. IsGivenTable f c.args.environment.now c.args.served.now.table c.in_ok-noted.noted) names_kept c.in_ok-noted.ensures.read;
      is_repertoire = subst (λ f. IsHeld f served.repertoire.now (File c.in_ok-repertoire.repertoire.items)) table_kept c.in_ok-repertoire.ensures.reads;
      is_certificate = subst (λ f. IsHeld f served.certificate.now (File c.in_ok-certificate.certificate.items)) (c.in_ok-repertoire.ensures.kept ∙ table_kept) c.in_ok-certificate.ensures.reads;
    }

pub returns-in_err-names-clause-fault : goal.returns-in_err-names-clause-fault
returns-in_err-names-clause-fault g c =
    let folder = c.args.files.now.holds in let names = map (λ name. name.now) c.args.names.now in let fault = c.in_err-names.field-0.0 in
    handed (FailsServe folder c.args.environment.now names c.args.served.now) c.from_residual.result fault c.from_residual.ensures.1
    (inr (inl (subst (λ b. FailNames folder (names_for b names) fault) c.is_file.ensures c.in_err-names.ensures.fault)))

pub returns-in_err-noted-clause-fault : goal.returns-in_err-noted-clause-fault
returns-in_err-noted-clause-fault g c =
    let folder = c.args.files.now.holds in let environment = c.args.environment.now in let names = map (λ name. name.now) c.args.names.now in let table = c.args.served.now.table in
    let fault = c.in_err-noted.field-0.0 in
    handed (FailsServe folder environment names c.args.served.now) c.from_residual-in_err-noted.result fault c.from_residual-in_err-noted.ensures.1
    (inr (inr (
      (c.in_ok-names.names, subst (λ b. AreNames folder (names_for b names) c.in_ok-names.names) c.is_file.ensures c.in_ok-names.ensures.read),
      inl (subst (λ f. FailsGivenTable f environment (codes "table") table fault) c.in_ok-names.ensures.kept c.in_err-noted.ensures.fault),
    )))

pub returns-in_err-repertoire-clause-fault : goal.returns-in_err-repertoire-clause-fault
returns-in_err-repertoire-clause-fault g c =
    let folder = c.args.files.now.holds in let environment = c.args.environment.now in let names = map (λ name. name.now) c.args.names.now in let table = c.args.served.now.table in
    let repertoire = c.args.served.now.repertoire.now in let fault = c.in_err-repertoire.field-0.0 in
    let names_kept = c.in_ok-names.ensures.kept in let table_kept = c.in_ok-noted.ensures.kept ∙ names_kept in
    handed (FailsServe folder environment names c.args.served.now) c.from_residual-in_err-repertoire.result fault c.from_residual-in_err-repertoire.ensures.1
    (inr (inr (
      (c.in_ok-names.names, subst (λ b. AreNames folder (names_for b names) c.in_ok-names.names) c.is_file.ensures c.in_ok-names.ensures.read),
      inr (
        (c.in_ok-noted.noted, subst (λ f. IsGivenTable f environment table c.in_ok-noted.noted) names_kept c.in_ok-noted.ensures.read),
        inl (subst (λ f. IsRead f repertoire (Err fault)) table_kept c.in_err-repertoire.ensures.reads),
      ),
    )))

pub returns-in_err-certificate-clause-fault : goal.returns-in_err-certificate-clause-fault
returns-in_err-certificate-clause-fault g c =
    let folder = c.args.files.now.holds in let environment = c.args.environment.now in let names = map (λ name. name.now) c.args.names.now in let table = c.args.served.now.table in
    let repertoire = c.args.served.now.repertoire.now in let certificate = c.args.served.now.certificate.now in let bytes = c.in_ok-repertoire.repertoire.items in let fault = c.in_err-certificate.field-0.0 in
    let names_kept = c.in_ok-names.ensures.kept in let table_kept = c.in_ok-noted.ensures.kept ∙ names_kept in
    handed (FailsServe folder environment names c.args.served.now) c.from_residual-in_err-certificate.result fault c.from_residual-in_err-certificate.ensures.1
    (inr (inr (
      (c.in_ok-names.names, subst (λ b. AreNames folder (names_for b names) c.in_ok-names.names) c.is_file.ensures c.in_ok-names.ensures.read),
      inr (
        (c.in_ok-noted.noted, subst (λ f. IsGivenTable f environment table c.in_ok-noted.noted) names_kept c.in_ok-noted.ensures.read),
        inr (
          (bytes, subst (λ f. IsHeld f repertoire (File bytes)) table_kept c.in_ok-repertoire.ensures.reads),
          subst (λ f. IsRead f certificate (Err fault)) (c.in_ok-repertoire.ensures.kept ∙ table_kept) c.in_err-certificate.ensures.reads,
        ),
      ),
    )))
