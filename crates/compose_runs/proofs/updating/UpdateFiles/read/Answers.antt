use Rattle.std.proofs.Common.{◌∙◌, subst, rules, ◌≡◌, inl, inr, ℕ, List, map}
use Rattle.std.specs.Prelude.{Option, Some, None, Err, option_copied}
use Rattle.compose_folder.specs.Content.{Entry}
use Rattle.compose_model.specs.declared.Rule.TheVariants.{Longest}
use Rattle.compose_input.specs.Faults.{FailsFound}
use Rattle.compose_input.specs.Tables.{IsFoundOnSystem}
use Rattle.compose_given.proofs.Failing.{fails}
use Rattle.compose_runs.specs.Faults.{FailsAccepted, FailsUpdateRead, HasOption}
use Rattle.compose_runs.specs.Updating.{IsRepertoire}
use Rattle.compose_runs.proofs.updating.UpdateFiles.read.Goals as goal

pub returns-in_err-new-clause-fault : goal.returns-in_err-new-clause-fault
returns-in_err-new-clause-fault g c =
    let fault = c.in_err-new.field-0.0 in let places = c.in_ok-places.places in
    let is : c.from_residual-in_err-new.result ≡ Err fault = search rules in
    fails (FailsUpdateRead c.args.files.now.holds c.args.environment.now (map (λ name. name.now) c.args.names.now) c.args.arguments.now) c.from_residual-in_err-new.result fault is
    (inr (inr (
      places,
      c.in_ok-places.ensures,
      inr (
        (c.in_ok-names.names, c.in_ok-names.ensures.read),
        inl (subst (λ f. FailsFound f places c.args.arguments.now.file.now fault) c.in_ok-names.ensures.kept c.in_err-new.ensures.fault),
      ),
    )))

pub returns-in_err-repertoire-clause-fault : goal.returns-in_err-repertoire-clause-fault
returns-in_err-repertoire-clause-fault g c =
    let fault = c.in_err-repertoire.field-0.0 in let places = c.in_ok-places.places in let arguments = c.args.arguments.now in
    let names_kept = c.in_ok-names.ensures.kept in let new_kept = c.in_ok-new.ensures.kept ∙ names_kept in
    let is : c.from_residual-in_err-repertoire.result ≡ Err fault = search rules in
    fails (FailsUpdateRead c.args.files.now.holds c.args.environment.now (map (λ name. name.now) c.args.names.now) arguments) c.from_residual-in_err-repertoire.result fault is
    (inr (inr (
      places,
      c.in_ok-places.ensures,
      inr (
        (c.in_ok-names.names, c.in_ok-names.ensures.read),
        inr (
          (c.in_ok-new.new, subst (λ f. IsFoundOnSystem f places arguments.file.now Longest c.in_ok-new.new) names_kept c.in_ok-new.ensures.found),
          inl (subst (λ f. FailsAccepted f (option_copied arguments.repertoire) fault) new_kept c.in_err-repertoire.ensures.fault),
        ),
      ),
    )))

-- the file of the repertoire exists, if its path is given
held : (folder : Option (List Entry)) (path : Option (List ℕ)) (bytes : List ℕ) → IsRepertoire folder path bytes → HasOption folder path
held folder None bytes is = tt
held folder (Some path) bytes is = (bytes, is)

pub returns-in_err-meant-clause-fault : goal.returns-in_err-meant-clause-fault
returns-in_err-meant-clause-fault g c =
    let fault = c.in_err-meant.field-0.0 in let folder = c.args.files.now.holds in let places = c.in_ok-places.places in let arguments = c.args.arguments.now in
    let names_kept = c.in_ok-names.ensures.kept in let new_kept = c.in_ok-new.ensures.kept ∙ names_kept in let repertoire_kept = c.in_ok-repertoire.ensures.kept ∙ new_kept in
    let is : c.from_residual-in_err-meant.result ≡ Err fault = search rules in
    fails (FailsUpdateRead folder c.args.environment.now (map (λ name. name.now) c.args.names.now) arguments) c.from_residual-in_err-meant.result fault is
    (inr (inr (
      places,
      c.in_ok-places.ensures,
      inr (
        (c.in_ok-names.names, c.in_ok-names.ensures.read),
        inr (
          (c.in_ok-new.new, subst (λ f. IsFoundOnSystem f places arguments.file.now Longest c.in_ok-new.new) names_kept c.in_ok-new.ensures.found),
          inr (
            held folder (option_copied arguments.repertoire) c.in_ok-repertoire.repertoire.items
                (subst (λ f. IsRepertoire f (option_copied arguments.repertoire) c.in_ok-repertoire.repertoire.items) new_kept c.in_ok-repertoire.ensures.read),
            subst (λ f. FailsAccepted f (option_copied arguments.accept) fault) repertoire_kept c.in_err-meant.ensures.fault,
          ),
        ),
      ),
    )))
