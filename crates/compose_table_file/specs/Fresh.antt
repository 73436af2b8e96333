-- Keysyms as bytes (definitions for private functions).
use Rattle.std.specs.Prelude.{◌≡◌, ℕ, ◌≤◌, List, ◌++◌}
use Rattle.std.specs.Int.{to_be_bytes, w32}
use Rattle.keysym_core.specs.Keysym.{max_keysym}
use Rattle.compose_table_file.specs.TableFile.{AreNoKeysyms}
use Rattle.compose_table_file.specs.declared.table_file.StoredFault.{StoredFault}
use Rattle.compose_table_file.specs.declared.table_file.StoredFault.TheVariants.{NoMemory, Fresh}

-- the bytes begin with this keysym, and these are behind it
abbrev pub IsStart : ℕ → List ℕ → List ℕ → Type 0
IsStart keysym behind bytes = (keysym ≤ max_keysym) × (bytes ≡ to_be_bytes w32 keysym ++ behind)

-- the bytes begin with no keysym
abbrev pub IsNoStart : List ℕ → Type 0
IsNoStart bytes = (keysym : ℕ) (behind : List ℕ) → IsStart keysym behind bytes → ⊥

-- no keysyms are written so; or memory ran out
abbrev pub NotKeysyms : StoredFault → List ℕ → Type 0
NotKeysyms Fresh bytes = AreNoKeysyms bytes
NotKeysyms NoMemory bytes = Unit {0}
NotKeysyms fault bytes = ⊥
