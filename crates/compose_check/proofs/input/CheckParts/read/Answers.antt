use Rattle.std.proofs.Common.{◌≡◌, map, rules, subst, sym}
use Rattle.std.specs.Prelude.{Result}
use Rattle.compose_migration.specs.Migration.{NoAnswer}
use Rattle.compose_migration.specs.Refused.{Returns}
use Rattle.compose_migration.specs.Values.{parts}
use Rattle.compose_migration.proofs.Steps.{refusal_gives}
use Rattle.compose_check.specs.Input.{Parts, parts_of, with_key_names}
use Rattle.compose_check.specs.CheckReturns.{input_of, parts_read}
use Rattle.compose_check.proofs.PartsRead.{migration_refused, after_migration}
use Rattle.compose_check.proofs.input.CheckParts.read.Goals as goal

pub returns-in_err-migration : goal.returns-in_err-migration
returns-in_err-migration g c =
    let input = with_key_names (map (λ name. name.now) c.args.key_names.now) (input_of c.args.input.now) in
    refusal_gives (λ expected read. expected ≡ parts_read g.T.ComposeTable.definitions read) c.from_residual.result c.in_err-migration.field-0.0 (parts_of input) (search rules)
    (migration_refused input c.in_err-migration.field-0.0 c.in_err-migration.ensures)

pub returns : goal.returns
returns g c =
    let input = with_key_names (map (λ name. name.now) c.args.key_names.now) (input_of c.args.input.now) in
    let m = parts g.T.ComposeTable.definitions c.in_ok-migration.migration in
    subst (λ (s : Result Parts NoAnswer). Returns (λ expected read. expected ≡ parts_read g.T.ComposeTable.definitions read) c.read_texts.result s)
    (sym (after_migration input m c.in_ok-migration.ensures)) c.read_texts.ensures
