-- The includes of a source.
use Rattle.std.specs.Prelude.{ℕ, ◌+◌, List, [], ◌∷◌}
use Rattle.std.specs.Option.{option_map_or}
use Rattle.compose_read.specs.Lines.{source_lines}
use Rattle.compose_read.specs.Visits.{raw_include}

-- an include: the number of its line, counted from 1, and the raw text of its string
pub record Include : Type 0 where
  pub line : ℕ
  pub raw : List ℕ

-- the includes of these lines, the first of which has the number n
abbrev pub includes_from : ℕ → List (List ℕ) → List Include
includes_from n [] = []
includes_from n (line ∷ lines) = option_map_or (λ raw. record { line = n; raw = raw } ∷ includes_from (1 + n) lines) (raw_include line) (includes_from (1 + n) lines)

-- the includes of a source, line by line
abbrev pub includes_of : List ℕ → List Include
includes_of bytes = includes_from 1 (source_lines bytes)
