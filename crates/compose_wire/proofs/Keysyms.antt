-- The bytes of keysyms.
use Rattle.std.proofs.Common.{◌≡◌, ℕ, ◌*◌, List, [], ◌∷◌, length, flat_map, refl, arith}
use Rattle.std.specs.Int.{to_be_bytes, w32}

-- each keysym has four bytes
pub keysym_bytes_length : (keysyms : List ℕ) → length (flat_map (to_be_bytes w32) keysyms) ≡ 4 * length keysyms
keysym_bytes_length [] = refl
keysym_bytes_length (k ∷ keysyms) = omega (arith, keysym_bytes_length keysyms)
