-- Where the name of a result keysym stands on a line. Definitions for private functions.
use Rattle.std.specs.Prelude.{ℕ, Bool, not, ◌==◌}

-- a byte that is no colon, as all that stand in the keys of a definition
abbrev pub is_before_colon : ℕ → Bool
is_before_colon b = not (b == 58)
