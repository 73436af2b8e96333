use Rattle.std.proofs.Common.{◌≡◌, ◌∙◌, ap, subst, map, ◌++◌, [], ◌∷◌, string_bytes}
use Rattle.compose_report.proofs.Results.{ok_map}
use Rattle.compose_explaining.specs.Explains.{IsExplainOutcome}
use Rattle.compose_report.specs.Told.{IsToldOutcome}
use Rattle.compose_explaining.proofs.running.explain_pair.Goals as goal

pub returns : goal.returns
returns g c =
    let asked = c.args.asked.now in let names = c.args.names.now in let old = c.args.old.now in let new = c.args.new.now in
    let told = c.explain_tables-told.result in let given = c.of-given.result in
    let notes_are : string_bytes c.in_ok-notes.notes ≡ string_bytes old.notes ++ string_bytes new.notes =
    c.in_ok-notes.ensures ∙ (ap (λ x. x ++ c.deref-2.result.now) c.deref.ensures ∙ ap (λ y. string_bytes old.notes ++ y) c.deref-2.ensures) in
    ok_map (IsToldOutcome asked.form given (string_bytes c.in_ok-notes.notes) told) (IsExplainOutcome asked names old new) c.report.result
    (λ outcome reported. record {
      input = c.input_of-input.result;
      is_input = c.input_of-input.ensures;
      old_side = c.side_of-old_side.result;
      is_old = c.side_of-old_side.ensures;
      new_side = c.side_of-new_side.result;
      is_new = c.side_of-new_side.ensures;
      told = told;
      is_told = c.explain_tables-told.ensures;
      given = given;
      is_given = c.of-given.ensures (old.table ∷ new.table ∷ []) (c.of.ensures, (c.of-2.ensures, tt));
      reported = subst (λ n. IsToldOutcome asked.form given n told outcome) notes_are reported;
    }) c.report.ensures
