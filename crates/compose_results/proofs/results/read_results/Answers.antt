use Rattle.std.proofs.Common.{◌≡◌, ◌∙◌, true, sym, subst}
use Rattle.std.specs.List.{All}
use Rattle.compose_results.specs.SourceLines.{stands}
use Rattle.compose_results.proofs.StandingLines.{lines_stand}
use Rattle.compose_results.proofs.results.read_results.Goals as goal

pub results_of-requires-clause-stand : goal.results_of-requires-clause-stand
results_of-requires-clause-stand g c =
    let names = c.args.names.now in let sources = c.args.sources.now in let table = g.T.ComposeTable.definitions c.in_ok-table.field-0.table in
    subst (All (λ line. stands sources line ≡ true)) (sym (c.deref.ensures.value ∙ c.in_ok-table.ensures.lines))
    (lines_stand names sources c.args.root.now c.args.rule table c.in_ok-table.ensures.table)
