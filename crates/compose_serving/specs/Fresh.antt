-- A service whose loads may list only the keysyms of some names as fresh.
use Rattle.std.specs.Prelude.{◌≡◌, ℕ, List, Some, Result}
use Rattle.compose_machine.specs.Machine.{ServiceState}
use Rattle.compose_migration.specs.Keys.{keys_of}
use Rattle.compose_migration.specs.Migration.{no_key, or_because}
use Rattle.compose_migration.specs.Refused.{Returns}
use Rattle.compose_migration.specs.declared.refusal.Refusal.{Refusal}

-- the service with these keysyms as those that a load may list
abbrev pub IsAllowing : ServiceState → List ℕ → ServiceState → Type 0
IsAllowing service keysyms allowed = allowed ≡ record service { allowed = Some keysyms }

-- the service that allows the keysyms of the names, or the refusal of the first name that has none
abbrev pub Allows : ServiceState → List (List ℕ) → Result ServiceState Refusal → Type 0
Allows service names result = Returns (IsAllowing service) result (or_because no_key (keys_of service.names names))
