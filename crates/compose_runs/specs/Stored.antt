-- The table in use, as `update` stores it: the message about damage (this project's profile).
use Rattle.std.specs.Prelude.{◌≡◌, ◌⊎◌, ℕ, List, ◌++◌, string_bytes, codes}
use Rattle.compose_bundle.specs.Bundle.{Bundle, IsBundle}
use Rattle.compose_input.specs.declared.fault.Fault.{Fault}
use Rattle.compose_input.specs.declared.fault.Fault.TheVariants as faults

-- the form is not that of a bundle
abbrev pub damage : List ℕ
damage = codes "1 Form"

-- the fault of the state in these words, unless memory runs out for it
abbrev pub IsStateFault : List ℕ → Fault → Type 0
IsStateFault words (faults.Refused part why) = (part.now ≡ codes "state") × (string_bytes why ≡ words)
IsStateFault words faults.NoMemory = Unit {0}
IsStateFault words fault = ⊥

-- memory ran out; or the bytes are not a bundle, and the fault says so after the words of this
-- place
abbrev pub IsDamaged : List ℕ → List ℕ → Fault → Type 0
IsDamaged place bytes fault = (fault ≡ faults.NoMemory) ⊎ (((bundle : Bundle) → ¬ (IsBundle bytes bundle)) × IsStateFault (place ++ damage) fault)
