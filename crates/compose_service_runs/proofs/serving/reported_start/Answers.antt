use Rattle.std.proofs.Common.{ap, map, subst, [], ◌∷◌, refl}
use Rattle.std.specs.Prelude.{not, true}
use Rattle.compose_report.specs.Outcomes.{IsWorded}
use Rattle.compose_report.proofs.Results.{ok_map}
use Rattle.compose_service_runs.specs.Serving.{IsStartReported}
use Rattle.compose_service_runs.proofs.serving.reported_start.Goals as goal

pub returns : goal.returns
returns g c =
    let files = c.args.files.now in let served = c.args.served.now in let answered = c.args.answered in
    let given = record c.of-listed.result { repertoire = served.repertoire; repertoire_text = c.deref.result; certificate = served.certificate; certificate_text = c.deref-2.result } in
    let parts = c.of-listed.ensures (files.table ∷ files.table ∷ []) (c.of.ensures, (c.of-2.ensures, tt)) in
    ok_map (IsWorded (not c.is_file-numbered.result) true given answered) (IsStartReported files served (map (λ name. name.now) c.args.key_names.now) answered) c.worded_outcome.result
    (λ outcome worded. record {
      given = given;
      parts = record {
        headers = parts.headers;
        header = parts.header;
        arguments = parts.arguments;
        tables = parts.tables;
        repertoire = refl;
        repertoire_text = c.deref.ensures.value;
        certificate = refl;
        certificate_text = c.deref-2.ensures.value;
      };
      worded = subst (λ numbered. IsWorded numbered true given answered outcome) (ap not c.is_file-numbered.ensures) worded;
    }) c.worded_outcome.ensures
