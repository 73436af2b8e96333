use Rattle.std.proofs.Common.{rules, ◌≡◌, inr, ◌∙◌, ap, subst, ◌++◌, string_bytes}
use Rattle.std.specs.Prelude.{Err}
use Rattle.compose_input.specs.Faults.{FailsFound}
use Rattle.compose_input.specs.Search.{IsSystemTable}
use Rattle.compose_given.proofs.Failing.{fails}
use Rattle.compose_runs.specs.Faults.{FailsManifestRun}
use Rattle.compose_report.specs.Outcomes.{IsNoted}
use Rattle.compose_runs.specs.Manifest.{IsManifestOutcome}
use Rattle.compose_runs.proofs.manifest.run_manifest.Goals as goal

pub returns-clause-outcome : goal.returns-clause-outcome
returns-clause-outcome g c =
    let places = c.in_ok-places.places in let path = string_bytes c.in_ok-file.file.path in
    record {
      places = places;
      are_places = c.in_ok-places.ensures;
      file = c.in_ok-file.file;
      is_file = c.in_ok-file.ensures.chosen;
      table = c.in_ok-found.found;
      is_table = subst (λ p. IsSystemTable c.args.files.now.holds places p c.in_ok-found.found) c.deref.ensures (subst (λ f. IsSystemTable f places c.deref.result.now c.in_ok-found.found) c.in_ok-file.ensures.kept c.in_ok-found.ensures.found);
      found = c.in_ok-outcome.outcome;
      is = subst (λ p. IsManifestOutcome places p c.in_ok-found.found.files.items c.in_ok-outcome.outcome) c.deref-2.ensures (subst (λ fs. IsManifestOutcome places c.deref-2.result.now fs c.in_ok-outcome.outcome) c.deref-3.ensures.value c.in_ok-outcome.ensures);
      noted = subst (λ n. IsNoted n c.in_ok-outcome.outcome c.with_notes.result) (c.in_ok-notes.ensures ∙ (ap (λ n. n ++ c.deref-5.result.now) c.deref-4.ensures ∙ ap (λ n. string_bytes c.in_ok-file.file.note ++ n) c.deref-5.ensures)) c.with_notes.ensures;
    }

pub returns-in_err-found-clause-fault : goal.returns-in_err-found-clause-fault
returns-in_err-found-clause-fault g c =
    let fault = c.in_err-found.field-0.0 in let places = c.in_ok-places.places in
    let is : c.from_residual-in_err-found.result ≡ Err fault = search rules in
    fails (FailsManifestRun c.args.files.now.holds c.args.environment.now c.args.arguments.now) c.from_residual-in_err-found.result fault is
    (inr (inr (
      places,
      c.in_ok-places.ensures,
      inr (
        c.in_ok-file.file,
        c.in_ok-file.ensures.chosen,
        subst (λ p. FailsFound c.args.files.now.holds places p fault) c.deref.ensures (subst (λ f. FailsFound f places c.deref.result.now fault) c.in_ok-file.ensures.kept c.in_err-found.ensures.fault),
      ),
    )))
