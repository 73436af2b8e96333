use Rattle.compose_lint.specs.Answers.{asked}
use Rattle.compose_lint.proofs.ByNames.{by_names}
use Rattle.compose_lint.proofs.answer.lint_tables.Goals as goal

pub returns-in-Ok : goal.returns-in-Ok
returns-in-Ok c = by_names (asked c.args.input.now) c.in-Ok.names c.answer_by.result c.in-Ok.ensures c.answer_by.ensures
