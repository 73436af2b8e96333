use Rattle.std.proofs.Common.{refl, map, ap, ◌∙◌, ℕ, List, [], ◌∷◌, Bor}
use Rattle.compose_report.specs.Outcomes.{IsWorded}
use Rattle.compose_report.proofs.Results.{ok_map}
use Rattle.compose_runs.specs.Checking.{allowed_names, given_parts}
use Rattle.compose_runs.specs.Reports.{IsReport}
use Rattle.compose_given.proofs.Lent.{names_or_none}
use Rattle.compose_runs.proofs.checking.check_report.Goals as goal

pub returns : goal.returns
returns g c =
    let check = c.args.check.now in let texts = c.args.texts in let answered = c.args.answered in
    let given = record c.of-listed.result { repertoire = texts.repertoire; repertoire_text = c.deref.result; certificate = texts.certificate; certificate_text = c.deref-2.result } in
    let parts = c.of-listed.ensures (check.both.old ∷ check.both.new ∷ []) (c.of.ensures, (c.of-2.ensures, tt)) in
    ok_map (IsWorded c.args.numbered c.args.verbose given answered) (IsReport c.args.numbered c.args.verbose (given_parts check texts (allowed_names c.args.allowed)) answered) c.worded_outcome.result
    (λ outcome reported. record {
      given = given;
      are_parts = record {
        headers = parts.headers;
        header = parts.header;
        arguments = parts.arguments ∙ (ap (λ (l : Bor (List (Bor (List ℕ)))). map (λ name. name.now) l.now) c.unwrap_or.ensures ∙ names_or_none c.args.allowed _ refl);
        tables = parts.tables;
        repertoire = refl;
        repertoire_text = c.deref.ensures.value;
        certificate = refl;
        certificate_text = c.deref-2.ensures.value;
      };
      reported = reported;
    }) c.worded_outcome.ensures
