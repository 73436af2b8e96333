use Rattle.std.proofs.Common.{subst, refl, inl, inr, map}
use Rattle.compose_folder.specs.Content.{File, IsHeld}
use Rattle.compose_runs.specs.Making.{IsMakeOutcome}
use Rattle.std.specs.Prelude.{Err}
use Rattle.compose_input.specs.declared.fault.Fault.TheVariants.{NoMemory}
use Rattle.compose_given.proofs.Failing.{handed, memory}
use Rattle.compose_input.specs.Texts.{IsRead}
use Rattle.compose_runs.specs.Faults.{FailsMake}
use Rattle.compose_runs.proofs.making.run_make.Goals as goal

pub returns-clause-outcome : goal.returns-clause-outcome
returns-clause-outcome g c = record {
  files = c.in_ok-both.both;
  read = c.in_ok-both.ensures.read;
  repertoire = c.in_ok-repertoire.repertoire.items;
  is_repertoire = subst (λ f. IsHeld f c.args.making.repertoire.now (File c.in_ok-repertoire.repertoire.items)) c.in_ok-both.ensures.kept c.in_ok-repertoire.ensures.reads;
  printed = c.in_ok-outcome.outcome;
  is = subst (λ bytes. IsMakeOutcome c.args.options.verbose c.in_ok-both.both bytes c.args.making c.in_ok-outcome.outcome) c.deref.ensures.value c.in_ok-outcome.ensures;
  written = c.in_ok-written_to.ensures;
}

pub returns-in_err-both-clause-fault : goal.returns-in_err-both-clause-fault
returns-in_err-both-clause-fault g c =
    let fault = c.in_err-both.field-0.0 in
    handed (FailsMake c.args.files.now.holds (map (λ name. name.now) c.args.options.names.now) c.args.paths.now.old.now c.args.paths.now.new.now c.args.making.repertoire.now) c.from_residual.result fault c.from_residual.ensures.1 (inr (inl c.in_err-both.ensures.fault))

pub returns-in_err-repertoire-clause-fault : goal.returns-in_err-repertoire-clause-fault
returns-in_err-repertoire-clause-fault g c =
    let fault = c.in_err-repertoire.field-0.0 in
    handed (FailsMake c.args.files.now.holds (map (λ name. name.now) c.args.options.names.now) c.args.paths.now.old.now c.args.paths.now.new.now c.args.making.repertoire.now) c.from_residual-in_err-repertoire.result fault c.from_residual-in_err-repertoire.ensures.1
    (inr (inr ((c.in_ok-both.both, c.in_ok-both.ensures.read), subst (λ f. IsRead f c.args.making.repertoire.now (Err fault)) c.in_ok-both.ensures.kept c.in_err-repertoire.ensures.reads)))

pub returns-in_err-outcome-clause-fault : goal.returns-in_err-outcome-clause-fault
returns-in_err-outcome-clause-fault g c =
    handed (FailsMake c.args.files.now.holds (map (λ name. name.now) c.args.options.names.now) c.args.paths.now.old.now c.args.paths.now.new.now c.args.making.repertoire.now) c.from_residual-in_err-outcome.result NoMemory c.from_residual-in_err-outcome.ensures.1 (inl refl)

pub returns-in_err-written_to-clause-fault : goal.returns-in_err-written_to-clause-fault
returns-in_err-written_to-clause-fault g c =
    memory (FailsMake c.args.files.now.holds (map (λ name. name.now) c.args.options.names.now) c.args.paths.now.old.now c.args.paths.now.new.now c.args.making.repertoire.now) c.from_residual-in_err-written_to.result c.from_residual-in_err-written_to.ensures.1 (inl refl)
