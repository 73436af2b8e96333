-- The line of a file that counts for a sequence (Compose(5): a later definition overrides an
-- earlier one).
use Rattle.std.specs.Prelude.{◌≡◌, ℕ, Bool, false, bytes_eq, List, reverse, slice_get, Option, Some}
use Rattle.std.specs.List.{find}
use Rattle.std.specs.Option.{option_map_or}
use Rattle.compose_model.specs.Table.{Definition}
use Rattle.compose_lint.specs.Lines.{LintLine}

-- the line defines the sequence
abbrev pub defines : List ℕ → LintLine → Bool
defines s l = option_map_or (λ d. bytes_eq d.sequence s) l.definition false

-- the last of the lines that defines the sequence
abbrev pub last_defining : List LintLine → List ℕ → Option LintLine
last_defining lines s = find (defines s) (reverse lines)

-- ---- a definition for private functions

-- each of the lines that has a definition is the last one that defines its sequence
abbrev pub IsOnce : List LintLine → Type 0
IsOnce lines = (i : ℕ) (l : LintLine) (d : Definition) → slice_get lines i ≡ Some l → l.definition ≡ Some d → last_defining lines d.sequence ≡ Some l
