-- The fresh keysyms are increasing, and none is ignored or in a sequence of the old table.
use Rattle.std.specs.Prelude.{ℕ, not, List, [], ◌∷◌, flat_map}
use Rattle.keysym_core.specs.Keysym.{is_ignored}
use Rattle.compose_model.specs.Table.{Definition, has_key}
use Rattle.compose_model.specs.Nodes.{keysyms}
use Rattle.compose_model.specs.Certificate.{keys_rise}
use Rattle.compose_fresh.specs.declared.fault.CheckFault.TheVariants.{FreshNotRising, FreshIgnored, FreshUsed}
use Rattle.compose_fresh.specs.Conditions.{Condition, condition}

-- the largest number of fresh keysyms that a certificate may have (a limit of this project)
abbrev pub max_fresh : ℕ
max_fresh = 1048576

abbrev pub one_fresh_conditions : List Definition → ℕ → List Condition
one_fresh_conditions old k = condition (not (is_ignored k)) (FreshIgnored k) ∷ condition (not (has_key (keysyms old) k)) (FreshUsed k) ∷ []

abbrev pub fresh_conditions : List Definition → List ℕ → List Condition
fresh_conditions old fresh = condition (keys_rise fresh) FreshNotRising ∷ flat_map (one_fresh_conditions old) fresh
