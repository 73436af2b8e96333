use Rattle.std.proofs.Common.{rules, map, ◌≡◌}
use Rattle.compose_migration.specs.Migration.{named}
use Rattle.compose_migration.specs.Values.{named_parts}
use Rattle.compose_migration.proofs.Steps.{refusal_gives, keys_refused}
use Rattle.compose_migration.proofs.migration.Named.read.Goals as goal

pub returns-in_err-keys : goal.returns-in_err-keys
returns-in_err-keys c =
    let key_names = map (λ key_name. key_name.now) c.args.key_names.now in
    refusal_gives (λ expected read. expected ≡ named_parts read) c.from_residual-in_err-keys.result c.in_err-keys.field-0.0 (named c.args.header.now key_names) (search rules)
    (keys_refused c.args.header.now key_names c.in_ok-names.names c.in_ok-names.ensures c.in_err-keys.field-0.0 c.in_err-keys.ensures)
