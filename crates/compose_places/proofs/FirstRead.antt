-- A table whose root is the first source has the lines that count.
use Rattle.std.proofs.Common.{◌≡◌, ℕ, List, [], ◌∷◌, map, sym, ◌∙◌, ap, subst}
use Rattle.std.specs.Prelude.{Some, option_map, slice_get, Result, Ok, Err, IfOk}
use Rattle.std.proofs.lemmas.Option.{same_Some}
use Rattle.keysym_core.specs.Names.{KeysymNames}
use Rattle.compose_model.specs.Table.{Definition}
use Rattle.compose_model.specs.Nodes.{leaves}
use Rattle.compose_model.specs.declared.Rule.{Rule}
use Rattle.compose_read.specs.Lines.{Source}
use Rattle.compose_tree.specs.TableReturns.{TableReturns, table_of}
use Rattle.compose_tree.specs.declared.reading.TableFault.{TableFault}
use Rattle.compose_places.specs.Counting.{counting_line, read_lines, AreLines}
use Rattle.compose_places.specs.Overlaps.{overlap_count}
use Rattle.compose_places.specs.Placed.{HasLines, root_of}
use Rattle.compose_places.specs.declared.placed.PlacedTable.{PlacedTable}
use Rattle.compose_places.proofs.CountingLaw.{are_lines}

-- the root has the name of the first source
first_root : (sources : List Source) (root : List ℕ) → Some root ≡ option_map (λ (s : Source). s.name) (slice_get sources 0) → root ≡ root_of sources
first_root [] root h = cc
first_root (s ∷ sources) root h = same_Some root s.name h

module _ {T : Type 0} (view : T → List Definition) (names : KeysymNames) (sources : List Source) (root : List ℕ) (rule : Rule)
    (first : Some root ≡ option_map (λ (s : Source). s.name) (slice_get sources 0)) where
  pub has_lines : (result : Result (PlacedTable T) TableFault) → TableReturns (λ p. view p.table) result (table_of names sources root rule)
      → IfOk result (λ p. p.lines.items ≡ map (counting_line names (read_lines sources root)) (leaves (view p.table)))
      → IfOk result (λ p. p.overlaps ≡ overlap_count names sources root) → IfOk result (HasLines view names sources)
  has_lines (Ok p) read lines overlaps =
      let is = first_root sources root first in record {
        lines = lines ∙ ap (λ r. map (counting_line names (read_lines sources r)) (leaves (view p.table))) is;
        named = subst (AreLines names (view p.table)) (sym lines) (are_lines names sources root rule (view p.table) read);
        overlaps = overlaps ∙ ap (overlap_count names sources) is;
      }
  has_lines (Err e) read lines overlaps = tt
