use Rattle.std.proofs.Common.{rules, sym, ◌∙◌, ap, subst, nat_cmp}
use Rattle.std.specs.Prelude.{Result}
use Rattle.compose_model.specs.Nodes.{rising}
use Rattle.compose_migration.specs.Values.{given_of, parts}
use Rattle.compose_answer.specs.Parts.{Explainable, explain_parts}
use Rattle.compose_migration.specs.Migration.{NoAnswer}
use Rattle.compose_migration.specs.Refused.{Returns}
use Rattle.compose_tool.specs.Answers.{IsAllExplained}
use Rattle.compose_migration.proofs.Steps.{refusal_gives}
use Rattle.compose_tool.proofs.Steps.{explain_refused, explain_read}
use Rattle.compose_tool.proofs.explaining.explain_all_migration.Goals as goal

pub returns-in_err-migration : goal.returns-in_err-migration
returns-in_err-migration g c =
    let given = given_of c.args.input.now in
    refusal_gives IsAllExplained c.from_residual.result c.in_err-migration.field-0.0 (explain_parts given) (search rules)
    (explain_refused given c.in_err-migration.field-0.0 c.in_err-migration.ensures.parts)

pub returns : goal.returns
returns g c =
    let given = given_of c.args.input.now in
    let move = parts g.T.ComposeTable.definitions c.in_ok-migration.migration in
    subst (λ (s : Result Explainable NoAnswer). Returns IsAllExplained c.explain_all_tables.result s)
    (sym
    (explain_read given move c.in_ok-migration.ensures.parts c.deref-2.result.now
    (c.deref-2.ensures.value ∙ c.in_ok-fresh.ensures ∙ ap (rising nat_cmp) c.deref.ensures.value))) c.explain_all_tables.ensures
