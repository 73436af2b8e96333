use Rattle.std.proofs.Common.{map}
use Rattle.compose_input.specs.Tables.{sources_of}
use Rattle.compose_migration.specs.Values.{table_given}
use Rattle.compose_runs.proofs.Given.{same_migration}
use Rattle.compose_runs.proofs.files.MigrationFiles.input.Goals as goal

pub returns : goal.returns
returns c =
    let files = c.args.self.now in
    same_migration (map (λ name. name.now) c.args.fresh.now) c.deref.result.now files.names.lines.items (table_given c.input.result) (sources_of files.old)
    (table_given c.input-2.result) (sources_of files.new) c.deref.ensures.value c.input.ensures c.input-2.ensures
