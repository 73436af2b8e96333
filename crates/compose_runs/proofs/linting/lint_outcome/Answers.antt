use Rattle.std.proofs.Common.{subst, ◌∙◌, ap}
use Rattle.compose_report.proofs.Results.{ok_map}
use Rattle.compose_report.specs.Outcomes.{IsNoted}
use Rattle.compose_runs.specs.Linting.{IsLintOutcome, notes_in}
use Rattle.compose_runs.specs.Skipping.{IsFollowed}
use Rattle.compose_runs.proofs.linting.lint_outcome.Goals as goal

pub returns : goal.returns
returns c =
    let printed = c.in_ok-printed.printed in let noted = c.with_notes-noted.result in
    ok_map (IsFollowed c.deref-2.result.now noted) (IsLintOutcome c.args.files.now c.args.arguments.now) c.followed.result
    (λ outcome after. record {
      answered = c.lint_answer-answered.result;
      is = c.lint_answer-answered.ensures;
      printed = printed;
      is_printed = c.in_ok-printed.ensures;
      noted = noted;
      is_noted = subst (λ notes. IsNoted notes printed noted) (c.in_ok-notes_of.ensures ∙ ap notes_in c.deref.ensures.value) c.with_notes-noted.ensures;
      followed = subst (λ text. IsFollowed text noted outcome) (c.deref-2.ensures ∙ c.in_ok-skipped.ensures) after;
    }) c.followed.ensures
