use Rattle.std.proofs.Common.{◌≡◌, sym, subst}
use Rattle.std.specs.Prelude.{IfOk}
use Rattle.compose_read.specs.Visits.{visit_of}
use Rattle.compose_lint.specs.Lines.{LintLine}
use Rattle.compose_lint.proofs.Given.{read_is}
use Rattle.compose_lint.proofs.included.visited_line.Goals as goal

pub returns : goal.returns
returns c = subst (λ (x : LintLine). IfOk c.line_read.result (λ l. l ≡ x)) (sym (read_is c.args.names.now c.args._sources.now (visit_of c.args.line))) c.line_read.ensures
