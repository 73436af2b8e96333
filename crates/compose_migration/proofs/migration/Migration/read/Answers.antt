use Rattle.std.proofs.Common.{rules, refl, ◌≡◌}
use Rattle.compose_migration.specs.Migration.{migration_of}
use Rattle.compose_migration.specs.Values.{given_of, parts, named_parts}
use Rattle.compose_migration.proofs.Steps.{refusal_gives, old_refused, new_refused, all_read}
use Rattle.compose_migration.proofs.migration.Migration.read.Goals as goal

pub returns-in_err-old-clause-parts : goal.returns-in_err-old-clause-parts
returns-in_err-old-clause-parts g c =
    let given = given_of c.args.input in
    let n = named_parts c.in_ok-named.named in
    refusal_gives (λ expected read. expected ≡ parts g.T.ReadTable.definitions read) c.from_residual-in_err-old.result c.in_err-old.field-0.0 (migration_of given) (search rules)
    (old_refused given n c.in_ok-named.ensures c.in_err-old.field-0.0 c.in_err-old.ensures.table)

pub returns-in_err-new-clause-parts : goal.returns-in_err-new-clause-parts
returns-in_err-new-clause-parts g c =
    let given = given_of c.args.input in
    let n = named_parts c.in_ok-named.named in
    let old = g.T.ReadTable.definitions c.in_ok-old.old in
    refusal_gives (λ expected read. expected ≡ parts g.T.ReadTable.definitions read) c.from_residual-in_err-new.result c.in_err-new.field-0.0 (migration_of given) (search rules)
    (new_refused given n c.in_ok-named.ensures old c.in_ok-old.ensures.table c.in_err-new.field-0.0 c.in_err-new.ensures.table)

pub returns-clause-parts : goal.returns-clause-parts
returns-clause-parts g c =
    let given = given_of c.args.input in
    let n = named_parts c.in_ok-named.named in
    let old = g.T.ReadTable.definitions c.in_ok-old.old in
    let new = g.T.ReadTable.definitions c.in_ok-new.new in
    (_, all_read given n c.in_ok-named.ensures old c.in_ok-old.ensures.table new c.in_ok-new.ensures.table, refl)
