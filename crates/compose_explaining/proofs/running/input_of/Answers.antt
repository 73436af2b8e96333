use Rattle.std.proofs.Common.{map}
use Rattle.compose_input.specs.Tables.{sources_of}
use Rattle.compose_migration.specs.Values.{table_given}
use Rattle.compose_explaining.proofs.Given.{same_migration}
use Rattle.compose_explaining.proofs.running.input_of.Goals as goal

pub returns : goal.returns
returns c =
    let names = c.args.names.now in let old = c.args.old.now in let new = c.args.new.now in
    same_migration (map (λ name. name.now) c.args.fresh.now) c.deref.result.now names.lines.items (table_given c.input.result) (sources_of old)
    (table_given c.input-2.result) (sources_of new) c.deref.ensures.value c.input.ensures c.input-2.ensures
