use Rattle.std.proofs.Common.{refl, [], ◌∷◌}
use Rattle.compose_report.specs.Outcomes.{IsWorded}
use Rattle.compose_report.proofs.Results.{ok_map}
use Rattle.compose_runs.specs.Making.{make_given}
use Rattle.compose_runs.specs.Reports.{IsReport}
use Rattle.compose_runs.proofs.making.make_report.Goals as goal

pub returns : goal.returns
returns g c =
    let both = c.args.both.now in let answered = c.args.answered in let given = record c.of-listed.result { repertoire = c.args.making.repertoire; repertoire_text = c.args.repertoire } in
    let parts = c.of-listed.ensures (both.old ∷ both.new ∷ []) (c.of.ensures, (c.of-2.ensures, tt)) in
    ok_map (IsWorded c.args.numbered c.args.verbose given answered) (IsReport c.args.numbered c.args.verbose (make_given both c.args.repertoire.now c.args.making) answered)
    c.worded_outcome.result
    (λ outcome reported. record {
      given = given;
      are_parts = record {
        headers = parts.headers;
        header = parts.header;
        arguments = parts.arguments;
        tables = parts.tables;
        repertoire = refl;
        repertoire_text = refl;
        certificate = parts.certificate;
        certificate_text = parts.certificate_text;
      };
      reported = reported;
    }) c.worded_outcome.ensures
