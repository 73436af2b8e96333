-- Settling rows in rising order, by comparing neighbours. Definitions for private functions.
use Rattle.std.specs.Prelude.{Bool, true, false, if◌then◌else◌, List, [], ◌∷◌, Result, Ok, Err}
use Rattle.compose_model.specs.Table.{Definition, same, comes_before, is_proper_prefix}
use Rattle.compose_model.specs.declared.Rule.{Rule}
use Rattle.compose_model.specs.declared.Rule.TheVariants.{Refuse, Longest}
use Rattle.std.specs.List.Sorted.{IsSortedBy}
use Rattle.compose_read.specs.Settle.{Overlap}

-- a row that is a prefix of the next one is an overlap, or is left out
abbrev pub prefix_of_next : Rule → Definition → Definition → Result Bool Overlap
prefix_of_next Refuse d e = Err (record { short = d.sequence; long = e.sequence })
prefix_of_next Longest d e = Ok false

-- whether a row is kept before the next one: not if the next one has the same sequence or a longer
-- one that begins with it
abbrev pub stays_before : Rule → Definition → Definition → Result Bool Overlap
stays_before rule d e = if same d.sequence e.sequence then Ok false else if is_proper_prefix d.sequence e.sequence then prefix_of_next rule d e else Ok true

-- the row before the others, if it is kept
abbrev pub put_if : Definition → Result Bool Overlap → Result (List Definition) Overlap → Result (List Definition) Overlap
put_if d (Err o) rows = Err o
put_if d (Ok false) rows = rows
put_if d (Ok true) (Err o) = Err o
put_if d (Ok true) (Ok rows) = Ok (d ∷ rows)

-- the rows that are kept, each compared with the next one
abbrev pub settled_neighbours : Rule → List Definition → Result (List Definition) Overlap
settled_neighbours rule [] = Ok []
settled_neighbours rule (d ∷ []) = Ok (d ∷ [])
settled_neighbours rule (d ∷ e ∷ rows) = put_if d (stays_before rule d e) (settled_neighbours rule (e ∷ rows))

-- no row is less than the previous one
abbrev pub SequencesAscend : List Definition → Type 0
SequencesAscend rows = IsSortedBy (λ d e. comes_before d.sequence e.sequence) rows
