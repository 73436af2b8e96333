-- The keysyms in the sequence of a definition. Definitions for private functions.
use Rattle.std.specs.Prelude.{ℕ, Bool, not, ◌&&◌, List, IsTrue}
use Rattle.std.specs.List.{list_all}
use Rattle.keysym_core.specs.Keysym.{is_keysym, is_ignored}

-- a keysym that is not ignored
abbrev pub is_fed : ℕ → Bool
is_fed k = is_keysym k && not (is_ignored k)

abbrev pub AreFed : List ℕ → Type 0
AreFed sequence = IsTrue (list_all is_fed sequence)
