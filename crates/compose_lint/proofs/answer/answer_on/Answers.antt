use Rattle.std.proofs.Common.{sym, subst}
use Rattle.std.specs.Prelude.{Err}
use Rattle.compose_lint.specs.Answers.{AnswersOn, asked}
use Rattle.compose_lint.specs.declared.asking.LintFault.{LintFault}
use Rattle.compose_lint.proofs.Leaving.{refused_on}
use Rattle.compose_lint.proofs.answer.answer_on.Goals as goal

pub returns-in-Err : goal.returns-in-Err
returns-in-Err c =
    let given = asked c.args.input.now in
    subst (λ (fault : LintFault). AnswersOn given c.args.rows.now (Err fault)) (sym c.from.ensures) (refused_on given c.args.rows.now c.in-Err.fault c.in-Err.ensures)
