-- A table whose root is the first of its sources, with the lines that count.
use Rattle.std.specs.Prelude.{◌≡◌, ℕ, List, [], ◌∷◌, map}
use Rattle.keysym_core.specs.Names.{KeysymNames}
use Rattle.compose_model.specs.Table.{Definition}
use Rattle.compose_model.specs.Nodes.{leaves}
use Rattle.compose_read.specs.Lines.{Source}
use Rattle.compose_places.specs.Counting.{counting_line, read_lines, AreLines}
use Rattle.compose_places.specs.Overlaps.{overlap_count}
use Rattle.compose_places.specs.declared.placed.PlacedTable.{PlacedTable}

-- the name of the root, if it is the first source
abbrev pub root_of : List Source → List ℕ
root_of [] = []
root_of (s ∷ sources) = s.name

-- each sequence has the line that counts for it, whose keys it is; and the sequences that are left
-- out are counted
pub record HasLines {T : Type 0} (view : T → List Definition) (names : KeysymNames) (sources : List Source) (placed : PlacedTable T) : Type 0 where
  pub lines : placed.lines.items ≡ map (counting_line names (read_lines sources (root_of sources))) (leaves (view placed.table))
  pub named : AreLines names (view placed.table) placed.lines.items
  pub overlaps : placed.overlaps ≡ overlap_count names sources (root_of sources)
