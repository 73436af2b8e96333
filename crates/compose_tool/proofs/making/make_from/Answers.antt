use Rattle.std.proofs.Common.{rules, sym, ◌∙◌, ap, subst, nat_cmp}
use Rattle.std.specs.Prelude.{Result}
use Rattle.compose_model.specs.Nodes.{rising}
use Rattle.compose_migration.specs.Values.{parts}
use Rattle.compose_answer.specs.Parts.{Needs}
use Rattle.compose_migration.specs.Migration.{NoAnswer}
use Rattle.compose_migration.specs.Refused.{Returns}
use Rattle.compose_tool.specs.Answers.{IsMadeText, needs_of}
use Rattle.compose_migration.proofs.Steps.{refusal_gives}
use Rattle.compose_tool.proofs.Steps.{repertoire_refused, needs_read}
use Rattle.compose_tool.proofs.making.make_from.Goals as goal

pub returns-in_err-repertoire : goal.returns-in_err-repertoire
returns-in_err-repertoire g c =
    let move = parts g.T.ComposeTable.definitions c.args.migration.now in
    refusal_gives IsMadeText c.from_residual.result c.in_err-repertoire.field-0.0 (needs_of move c.args.repertoire.now) (search rules)
    (repertoire_refused move c.args.repertoire.now c.in_err-repertoire.field-0.0 c.in_err-repertoire.ensures)

pub returns : goal.returns
returns g c =
    let move = parts g.T.ComposeTable.definitions c.args.migration.now in
    subst (λ (s : Result Needs NoAnswer). Returns IsMadeText c.print_made.result s)
    (sym
    (needs_read move c.args.repertoire.now c.in_ok-repertoire.repertoire c.in_ok-repertoire.ensures c.deref-2.result.now
    (c.deref-2.ensures.value ∙ c.in_ok-fresh.ensures ∙ ap (rising nat_cmp) c.deref.ensures.value))) c.print_made.ensures
