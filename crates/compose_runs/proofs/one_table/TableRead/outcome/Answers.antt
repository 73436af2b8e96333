use Rattle.compose_runs.proofs.one_table.TableRead.outcome.Goals as goal

pub returns : goal.returns
returns g c =
    let report = c.in_ok-outcome.ensures in
    record {
      given = report.given;
      parts = report.are_parts;
      reported = c.in_ok-outcome.outcome;
      is = report.reported;
      noted = c.with_notes.ensures;
    }
