use Rattle.std.proofs.Common.{rules, sym, subst}
use Rattle.std.specs.Prelude.{Result}
use Rattle.compose_migration.specs.Values.{given_of, parts}
use Rattle.compose_answer.specs.Parts.{Needs, make_parts}
use Rattle.compose_migration.specs.Migration.{NoAnswer}
use Rattle.compose_migration.specs.Refused.{Returns}
use Rattle.compose_tool.specs.Answers.{IsMadeText}
use Rattle.compose_migration.proofs.Steps.{refusal_gives}
use Rattle.compose_tool.proofs.Steps.{make_refused, make_read}
use Rattle.compose_tool.proofs.making.make_migration.Goals as goal

pub returns-in_err-migration : goal.returns-in_err-migration
returns-in_err-migration g c =
    let given = given_of c.args.input.now in
    refusal_gives IsMadeText c.from_residual.result c.in_err-migration.field-0.0 (make_parts given c.args.repertoire.now) (search rules)
    (make_refused given c.args.repertoire.now c.in_err-migration.field-0.0 c.in_err-migration.ensures.parts)

pub returns : goal.returns
returns g c =
    let move = parts g.T.ComposeTable.definitions c.in_ok-migration.migration in
    subst (λ (s : Result Needs NoAnswer). Returns IsMadeText c.make_from.result s)
    (sym (make_read (given_of c.args.input.now) move c.in_ok-migration.ensures.parts c.args.repertoire.now)) c.make_from.ensures
