use Rattle.std.proofs.Common.{◌∙◌, subst, rules, ◌≡◌, inl, inr, map}
use Rattle.compose_input.specs.Tables.{IsListed}
use Rattle.std.specs.Prelude.{Err, codes}
use Rattle.compose_given.proofs.Failing.{fails}
use Rattle.compose_input.specs.Faults.{FailsListed}
use Rattle.compose_runs.specs.Faults.{FailsMigration}
use Rattle.compose_runs.proofs.files.MigrationFiles.read.Goals as goal

pub returns-clause-read : goal.returns-clause-read
returns-clause-read g c = record {
  are_names = c.in_ok-names.ensures.read;
  is_old = subst (λ f. IsListed f c.args.paths.now.old.now c.in_ok-old.old) c.in_ok-names.ensures.kept c.in_ok-old.ensures.listed;
  is_new = subst (λ f. IsListed f c.args.paths.now.new.now c.in_ok-new.new) (c.in_ok-old.ensures.kept ∙ c.in_ok-names.ensures.kept) c.in_ok-new.ensures.listed;
}

pub returns-in_err-names-clause-fault : goal.returns-in_err-names-clause-fault
returns-in_err-names-clause-fault g c =
    let fault = c.in_err-names.field-0.0 in let names = map (λ name. name.now) c.args.names.now in
    let is : c.from_residual.result ≡ Err fault = search rules in
    fails (FailsMigration c.args.files.now.holds names c.args.paths.now.old.now c.args.paths.now.new.now) c.from_residual.result fault is (inr (inl c.in_err-names.ensures.fault))

pub returns-in_err-old-clause-fault : goal.returns-in_err-old-clause-fault
returns-in_err-old-clause-fault g c =
    let fault = c.in_err-old.field-0.0 in let names = map (λ name. name.now) c.args.names.now in let old = c.args.paths.now.old.now in
    let is : c.from_residual-in_err-old.result ≡ Err fault = search rules in
    fails (FailsMigration c.args.files.now.holds names old c.args.paths.now.new.now) c.from_residual-in_err-old.result fault is
    (inr (inr ((c.in_ok-names.names, c.in_ok-names.ensures.read), inl (subst (λ f. FailsListed f (codes "old") old fault) c.in_ok-names.ensures.kept c.in_err-old.ensures.fault))))

pub returns-in_err-new-clause-fault : goal.returns-in_err-new-clause-fault
returns-in_err-new-clause-fault g c =
    let fault = c.in_err-new.field-0.0 in let names = map (λ name. name.now) c.args.names.now in let old = c.args.paths.now.old.now in let new = c.args.paths.now.new.now in
    let is : c.from_residual-in_err-new.result ≡ Err fault = search rules in
    let names_kept = c.in_ok-names.ensures.kept in
    fails (FailsMigration c.args.files.now.holds names old new) c.from_residual-in_err-new.result fault is
    (inr (inr (
      (c.in_ok-names.names, c.in_ok-names.ensures.read),
      inr (
        (c.in_ok-old.old, subst (λ f. IsListed f old c.in_ok-old.old) names_kept c.in_ok-old.ensures.listed),
        subst (λ f. FailsListed f (codes "new") new fault) (c.in_ok-old.ensures.kept ∙ names_kept) c.in_err-new.ensures.fault,
      ),
    )))
