use Rattle.std.proofs.Common.{map, subst, [], ◌∷◌}
use Rattle.compose_migration.specs.Values.{table_given}
use Rattle.compose_answer.specs.Parts.{type_parts}
use Rattle.compose_migration.specs.Refused.{Returns}
use Rattle.compose_tool.specs.Answers.{IsTyped}
use Rattle.compose_report.specs.Outcomes.{IsReported}
use Rattle.compose_report.proofs.Results.{ok_map}
use Rattle.compose_runs.specs.Typing.{IsTypeOutcome}
use Rattle.compose_runs.proofs.typing.type_outcome.Goals as goal

pub returns : goal.returns
returns g c =
    let names = c.args.names.now in let table = c.args.table.now in let keys = map (λ key. key.now) c.args.keys.now in
    let answered = c.type_keys-answered.result in let given = c.of-given.result in
    ok_map (IsReported c.args.verbose given answered) (IsTypeOutcome c.args.verbose names table keys) c.outcome_of.result
    (λ outcome reported. record {
      answered = answered;
      is = subst (λ s. Returns IsTyped answered (type_parts names.lines.items keys s)) c.input.ensures
          (subst (λ h. Returns IsTyped answered (type_parts h keys (table_given c.input.result))) c.deref.ensures.value c.type_keys-answered.ensures.exact);
      given = given;
      parts = c.of-given.ensures (table ∷ []) (c.of.ensures, tt);
      reported = reported;
    }) c.outcome_of.ensures
