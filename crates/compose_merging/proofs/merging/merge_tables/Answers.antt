use Rattle.compose_migration.specs.Values.{given_of}
use Rattle.compose_diff_rows.proofs.Joining.{unread_refused}
use Rattle.compose_merging.proofs.merging.merge_tables.Goals as goal

pub merge_read-requires : goal.merge_read-requires
merge_read-requires g c =
    let read = c.in-Ok.ensures.parts in record {
      expected = read.0;
      read = read.1;
      is = read.2;
      old = c.in-Ok.ensures.old;
      new = c.in-Ok.ensures.new;
    }

pub returns-in-Err : goal.returns-in-Err
returns-in-Err g c = unread_refused (given_of c.args.input.now.tables) c.in-Err.refusal c.in-Err.ensures.parts
