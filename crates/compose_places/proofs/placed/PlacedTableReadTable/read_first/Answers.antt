use Rattle.std.proofs.Common.{List, subst}
use Rattle.std.specs.Prelude.{Result}
use Rattle.compose_model.specs.Table.{Definition}
use Rattle.compose_tree.specs.TableReturns.{NoTable, TableReturns}
use Rattle.compose_tree.proofs.FirstSource.{root_named}
use Rattle.compose_places.proofs.FirstRead.{has_lines}
use Rattle.compose_places.proofs.placed.PlacedTableReadTable.read_first.Goals as goal

pub returns-clause-table : goal.returns-clause-table
returns-clause-table g c =
    subst (λ (expected : Result (List Definition) NoTable). TableReturns (λ placed. g.T.ComposeTable.definitions placed.table) c.read_placed_table.result expected)
    (root_named c.args.names.now c.args.sources.now c.in-Some.root.now c.args.rule c.in-Some.ensures) c.read_placed_table.ensures.table

pub returns-clause-read : goal.returns-clause-read
returns-clause-read g c =
    has_lines g.T.ComposeTable.definitions c.args.names.now c.args.sources.now c.in-Some.root.now c.args.rule c.in-Some.ensures
    c.read_placed_table.result c.read_placed_table.ensures.table c.read_placed_table.ensures.lines c.read_placed_table.ensures.overlaps
