use Rattle.std.proofs.Common.{◌∙◌, flat_map, ap, subst}
use Rattle.compose_lint.specs.Answers.{AnswersOn, asked}
use Rattle.compose_lint.specs.Rows.{linted_rows}
use Rattle.compose_lint.proofs.LineBytes.{rows_are}
use Rattle.compose_lint.proofs.answer.answer_by.Goals as goal

pub returns : goal.returns
returns c =
    let input = c.args.input.now in
    subst (λ rows. AnswersOn (asked input) rows c.answer_on.result)
    (c.deref-2.ensures.value ∙ c.in_ok-rows.ensures ∙ ap (flat_map linted_rows) (c.deref.ensures.value ∙ c.in_ok-tables.ensures) ∙ rows_are c.args.names.now input.readers input.is_all input.tables.now)
    c.answer_on.ensures
