use Rattle.std.proofs.Common.{refl, subst, map, ◌∷◌, []}
use Rattle.compose_report.specs.Outcomes.{IsWorded}
use Rattle.compose_report.proofs.Results.{ok_map}
use Rattle.compose_runs.specs.OneTable.{is_refused, table_given}
use Rattle.compose_runs.specs.Reports.{IsReport}
use Rattle.compose_runs.proofs.one_table.table_report.Goals as goal

pub returns : goal.returns
returns g c =
    let given = record c.of-listed.result { repertoire = c.args.repertoire; repertoire_text = c.args.repertoire_text } in let answered = c.args.answered in
    let parts = c.of-listed.ensures (c.args.read.now.table ∷ []) (c.of.ensures, tt) in
    ok_map (IsWorded c.args.numbered c.is_refused-verbose.result given answered) (IsReport c.args.numbered (is_refused answered) (table_given c.args.read.now (map (λ name. name.now) c.args.key_names.now) c.args.repertoire.now c.args.repertoire_text.now) answered)
    c.worded_outcome.result
    (λ outcome reported. record {
      given = given;
      are_parts = record {
        headers = parts.headers;
        header = parts.header;
        arguments = parts.arguments;
        tables = parts.tables;
        repertoire = refl;
        repertoire_text = refl;
        certificate = parts.certificate;
        certificate_text = parts.certificate_text;
      };
      reported = subst (λ v. IsWorded c.args.numbered v given answered outcome) c.is_refused-verbose.ensures reported;
    }) c.worded_outcome.ensures
