use Rattle.std.proofs.Common.{◌∙◌, ap, subst, ℕ, List, [], ◌∷◌, ◌++◌, Bor}
use Rattle.std.specs.Prelude.{codes}
use Rattle.compose_answer.specs.declared.answer.Ended.TheVariants.{Refused}
use Rattle.compose_report.specs.Outcomes.{PrintsErrors, reported_text}
use Rattle.compose_runs.specs.Linting.{lint_accept_details}
use Rattle.compose_given.proofs.Lent.{now_unwrap_or}
use Rattle.compose_runs.proofs.linting.accept_outcome.Goals as goal

pub returns : goal.returns
returns c =
    let own = c.deref.result.now in let printed = c.of_errors.result in (
      own,
      subst (λ path. PrintsErrors (reported_text c.args.numbered (codes "refused: accept: " ++ (own ++ 10 ∷ [])) (lint_accept_details path c.args.fault.now)) Refused printed)
          (ap (λ (path : Bor (List ℕ)). path.now) c.unwrap_or.ensures ∙ now_unwrap_or c.args.path _)
          (subst (λ text. PrintsErrors text Refused printed) c.in_ok-lines.ensures c.of_errors.ensures),
    )
