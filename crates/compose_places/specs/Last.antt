-- Which definition of a sequence counts: the last one.
use Rattle.std.specs.Prelude.{ℕ, ◌+◌, if◌then◌else◌, List, [], ◌∷◌, Option, Some, None}
use Rattle.std.specs.Option.{option_or}
use Rattle.compose_model.specs.Table.{Definition, same}

-- the index of the last definition with the sequence v, counted on from n
abbrev pub last_from : ℕ → List Definition → List ℕ → Option ℕ
last_from n [] v = None
last_from n (d ∷ table) v = option_or (last_from (1 + n) table v) (if same v d.sequence then Some n else None)

abbrev pub last_with : List Definition → List ℕ → Option ℕ
last_with table v = last_from 0 table v
