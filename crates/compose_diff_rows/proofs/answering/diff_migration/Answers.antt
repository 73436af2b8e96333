use Rattle.compose_migration.specs.Values.{given_of}
use Rattle.compose_diff_rows.proofs.Joining.{unread_refused}
use Rattle.compose_diff_rows.proofs.answering.diff_migration.Goals as goal

pub diff_tables-requires : goal.diff_tables-requires
diff_tables-requires g c =
    let read = c.in-Ok.ensures.parts in record {
      expected = read.0;
      read = read.1;
      is = read.2;
      old = c.in-Ok.ensures.old;
      new = c.in-Ok.ensures.new;
    }

pub returns-in-Err : goal.returns-in-Err
returns-in-Err g c = unread_refused (given_of c.args.input.now.tables) c.in-Err.refusal c.in-Err.ensures.parts
