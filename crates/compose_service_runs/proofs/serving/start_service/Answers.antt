use Rattle.std.proofs.Common.{◌≡◌, ◌∙◌, ap, refl, subst, map, [], ℕ, List, Bor}
use Rattle.std.specs.Prelude.{unwrap_or}
use Rattle.compose_given.proofs.Lent.{names_or_none}
use Rattle.compose_runs.specs.Checking.{allowed_names}
use Rattle.compose_service_runs.specs.Serving.{IsStartOutcome, wants_details}
use Rattle.compose_service_runs.proofs.serving.start_service.Goals as goal

pub returns-in-Ok-clause-started : goal.returns-in-Ok-clause-started
returns-in-Ok-clause-started g c = (c.in_ok-noted.noted, c.in_ok-noted.ensures.read, (c.in-Ok.ensures, refl))

pub returns-in_ok-outcome-in-Err-clause-started : goal.returns-in_ok-outcome-in-Err-clause-started
returns-in_ok-outcome-in-Err-clause-started g c =
    let folder = c.args.files.now.holds in let environment = c.args.environment.now in let options = c.args.options in let names = map (λ name. name.now) options.names.now in
    let served = c.args.served.now in let answered = c.start_answer-answered.result in
    let fresh = unwrap_or (allowed_names c.args.allowed) [] in let key_names = map (λ name. name.now) c.unwrap_or-key_names.result.now in let printed = c.in_ok-outcome-in-Err.outcome in
    let are : key_names ≡ fresh = ap (λ (l : Bor (List (Bor (List ℕ)))). map (λ name. name.now) l.now) c.unwrap_or-key_names.ensures ∙ names_or_none c.args.allowed _ refl in
    let here = subst (λ f. IsStartOutcome (wants_details options.verbose served answered) f environment names served key_names answered printed) c.in_ok-noted.ensures.kept
    c.in_ok-outcome-in-Err.ensures.outcome in
    let named = subst (λ keys. IsStartOutcome (wants_details options.verbose served answered) folder environment names served keys answered printed) are here in (
      c.in_ok-noted.noted,
      c.in_ok-noted.ensures.read,
      record {
        fault = c.in-Err.fault;
        begins = c.in-Err.ensures;
        printed = printed;
        is = subst (λ a. IsStartOutcome (wants_details options.verbose served a) folder environment names served fresh a printed) c.start_answer-answered.ensures named;
        noted = c.with_notes.ensures;
      },
    )
