use Rattle.std.proofs.Common.{map, subst, sym}
use Rattle.compose_answer.specs.Parts.{make_parts}
use Rattle.compose_migration.specs.Refused.{Returns}
use Rattle.compose_tool.specs.Answers.{IsMadeText, IsAllMadeText}
use Rattle.compose_runs.specs.Making.{AnswersMake}
use Rattle.compose_runs.specs.Files.{migration_given}
use Rattle.compose_runs.proofs.making.make_answer.Goals as goal

pub returns-then-making : goal.returns-then-making
returns-then-making g c =
    let r = c.make_all_migration.result in let bytes = c.args.repertoire.now in let given = migration_given c.args.both.now (map (λ name. name.now) c.args.making.fresh.now) in
    subst (λ all. AnswersMake all r given bytes) (sym c.if-making.true) (subst (λ m. Returns IsAllMadeText r (make_parts m bytes)) c.input-input.ensures c.make_all_migration.ensures)

pub returns-else-making : goal.returns-else-making
returns-else-making g c =
    let r = c.make_migration.result in let bytes = c.args.repertoire.now in let given = migration_given c.args.both.now (map (λ name. name.now) c.args.making.fresh.now) in
    subst (λ all. AnswersMake all r given bytes) (sym c.if-making.false) (subst (λ m. Returns IsMadeText r (make_parts m bytes)) c.input-input.ensures c.make_migration.ensures)
