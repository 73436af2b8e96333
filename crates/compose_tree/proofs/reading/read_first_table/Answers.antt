use Rattle.std.proofs.Common.{List, subst}
use Rattle.std.specs.Prelude.{Result}
use Rattle.compose_model.specs.Table.{Definition}
use Rattle.compose_tree.specs.TableReturns.{NoTable, TableReturns}
use Rattle.compose_tree.proofs.FirstSource.{root_named}
use Rattle.compose_tree.proofs.reading.read_first_table.Goals as goal

pub returns-clause-value : goal.returns-clause-value
returns-clause-value g c =
    subst (λ (expected : Result (List Definition) NoTable). TableReturns g.T.ComposeTable.definitions c.read_table.result expected)
    (root_named c.args.names.now c.args.sources.now c.in-Some.root.now c.args.rule c.in-Some.ensures) c.read_table.ensures
