use Rattle.std.proofs.Common.{◌≡◌, List, map, sym, ap, subst}
use Rattle.std.specs.Prelude.{filter, not, ◌==◌, slice_get, IfOk}
use Rattle.compose_read.specs.Lines.{Visit}
use Rattle.compose_lint.specs.Lines.{LintLine, lint_line}
use Rattle.compose_lint.proofs.MoreVisits.{read_is}
use Rattle.compose_lint.proofs.included.included_lines.Goals as goal

pub returns-in-Some-visits : goal.returns-in-Some-visits
returns-in-Some-visits c =
    let names = c.args.names.now in let sources = c.args.sources.now in let source = c.args.source in
    subst (λ (ls : List LintLine). IfOk c.others_in.result (λ others. others.items ≡ ls))
    (sym (ap (λ (vs : List Visit). map (lint_line names sources) (filter (λ (v : Visit). not (v.source == source)) vs)) (read_is sources (slice_get sources source) c.in-Some.name.now c.in-Some-visits.visits c.in-Some.ensures c.in-Some-visits.ensures)))
    c.others_in.ensures
