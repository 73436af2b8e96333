use Rattle.std.proofs.Common.{length, sym, ◌∙◌, eqb-true}
use Rattle.compose_diff.proofs.NothingAccepted.{nothing_accepted}
use Rattle.compose_diff.proofs.answer.answer_diff.Goals as goal

pub returns-then-is_empty : goal.returns-then-is_empty
returns-then-is_empty c =
    let lines = c.args.accepted.now in
    let rows = c.args.rows.now in
    (rows, nothing_accepted lines rows (eqb-true (length lines) 0 (sym c.is_empty.ensures ∙ c.if-is_empty.true)), c.in_ok-answer_on.ensures)
