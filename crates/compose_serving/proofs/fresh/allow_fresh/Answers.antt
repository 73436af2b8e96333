use Rattle.std.proofs.Common.{ℕ, List, map, subst, rules}
use Rattle.keysym_core.specs.Names.{KeysymNames}
use Rattle.compose_migration.specs.Keys.{keys_of}
use Rattle.compose_migration.specs.Migration.{no_key, or_because}
use Rattle.compose_migration.specs.Refused.{IsRefused}
use Rattle.compose_migration.proofs.Steps.{refusal_gives}
use Rattle.compose_serving.specs.Fresh.{IsAllowing}
use Rattle.compose_serving.proofs.fresh.allow_fresh.Goals as goal

pub returns-in_err-keysyms : goal.returns-in_err-keysyms
returns-in_err-keysyms g c =
    let service = c.args.service in
    let key_names = map (λ key_name. key_name.now) c.args.key_names.now in
    let fault = c.in_err-keysyms.field-0.0 in
    refusal_gives (IsAllowing service) c.from_residual.result fault (or_because no_key (keys_of service.names key_names)) (search rules)
    (subst (λ (names : KeysymNames). IsRefused {P = List ℕ} fault (or_because no_key (keys_of names key_names))) c.names.ensures c.in_err-keysyms.ensures)
