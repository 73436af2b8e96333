use Rattle.std.proofs.Common.{◌∙◌, length, sym, ap, eqb-true}
use Rattle.std.specs.Prelude.{Ok}
use Rattle.compose_lint.proofs.NothingAccepted.{nothing_accepted}
use Rattle.compose_lint.proofs.accepted.Accepted.leave_out.Goals as goal

pub returns-then-is_empty : goal.returns-then-is_empty
returns-then-is_empty c =
    let lines = c.args.self.now in
    nothing_accepted lines c.args.rows.now (eqb-true (length lines) 0 (sym c.is_empty.ensures ∙ c.if-is_empty.true)) ∙ ap Ok (sym c.in_ok-all_again.ensures)
