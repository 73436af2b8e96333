use Rattle.std.proofs.Common.{inr, subst, string_bytes}
use Rattle.std.specs.Prelude.{Err}
use Rattle.compose_input.specs.Texts.{IsRead}
use Rattle.compose_given.proofs.Failing.{handed}
use Rattle.compose_given.specs.Environment.{IsPlaced}
use Rattle.compose_listed_as.specs.Run.{FailsListAs, IsListedAt}
use Rattle.compose_listed_as.proofs.run.run_list_as.Goals as goal

pub returns-in_err-listed-clause-fault : goal.returns-in_err-listed-clause-fault
returns-in_err-listed-clause-fault g c =
    let folder = c.args.files.now.holds in let environment = c.args.environment.now in let arguments = c.args.arguments.now in let fault = c.in_err-listed.field-0.0 in
    handed (FailsListAs folder environment arguments) c.from_residual-in_err-listed.result fault c.from_residual-in_err-listed.ensures.1
    (inr (inr (
      c.in_ok-places.places,
      subst (λ a. IsPlaced environment a c.in_ok-places.places) c.place_arguments.ensures c.in_ok-places.ensures,
      inr (
        c.in_ok-file.file,
        c.in_ok-file.ensures.chosen,
        subst (λ path. IsRead folder path (Err fault)) c.deref.ensures (subst (λ h. IsRead h c.deref.result.now (Err fault)) c.in_ok-file.ensures.kept c.in_err-listed.ensures.fault),
      ),
    )))

pub returns-clause-outcome : goal.returns-clause-outcome
returns-clause-outcome g c =
    let folder = c.args.files.now.holds in record {
      places = c.in_ok-places.places;
      are_places = subst (λ a. IsPlaced c.args.environment.now a c.in_ok-places.places) c.place_arguments.ensures c.in_ok-places.ensures;
      file = c.in_ok-file.file;
      is_file = c.in_ok-file.ensures.chosen;
      listed = c.in_ok-listed.listed;
      is_listed = subst (λ v. IsListedAt folder v (string_bytes c.in_ok-file.file.path) c.in_ok-listed.listed) c.version_of-version.ensures
          (subst (λ path. IsListedAt folder c.version_of-version.result path c.in_ok-listed.listed) c.deref.ensures
          (subst (λ h. IsListedAt h c.version_of-version.result c.deref.result.now c.in_ok-listed.listed) c.in_ok-file.ensures.kept c.in_ok-listed.ensures.listed));
      printed = c.outcome_of.ensures;
    }
