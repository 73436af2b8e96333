use Rattle.std.proofs.Common.{rules}
use Rattle.compose_tree.specs.TableReturns.{first_table}
use Rattle.compose_migration.specs.Migration.{no_table}
use Rattle.compose_migration.proofs.Tables.{table_refused}
use Rattle.compose_migration.proofs.migration.read_side.Goals as goal

pub returns-in-Err-clause-table : goal.returns-in-Err-clause-table
returns-in-Err-clause-table g c =
    table_refused (no_table c.args.side) c.in-Err.fault (first_table c.args.names.now c.args.input.sources.now c.args.input.rule) (search rules)
