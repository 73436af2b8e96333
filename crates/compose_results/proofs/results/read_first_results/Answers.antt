use Rattle.compose_results.proofs.OneMore.{first_given, first_results}
use Rattle.compose_results.proofs.results.read_first_results.Goals as goal

pub returns-clause-table : goal.returns-clause-table
returns-clause-table g c =
    first_given c.read_results.result (λ read. g.T.ComposeTable.definitions read.table) c.args.names.now c.args.sources.now c.in-Some.root.now c.args.rule c.in-Some.ensures
    c.read_results.ensures.table

pub returns-clause-results : goal.returns-clause-results
returns-clause-results g c =
    first_results c.read_results.result (λ read. g.T.ComposeTable.definitions read.table) (λ read. read.results.items) c.args.names.now c.args.sources.now c.in-Some.root.now
    c.in-Some.ensures c.read_results.ensures.results
