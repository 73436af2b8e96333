use Rattle.std.proofs.Common.{◌≡◌, ◌++◌, drop, length, map, take}
use Rattle.std.specs.Prelude.{Some, not, filter}
use Rattle.keysym_core.specs.Names.{KeysymNames}
use Rattle.compose_model.specs.Nodes.{leaves}
use Rattle.compose_model.specs.Table.{is_sequence}
use Rattle.compose_places.specs.Counting.{counting_line, defined_sequence}
use Rattle.compose_places.proofs.counting.last_lines.Given as goal

-- so far each leaf has the last of the lines that were read, and the sequences that the table
-- doesn't have are appended to the others
abbrev pub invariant-loop-index : goal.invariant-loop-index
invariant-loop-index g l = record {
  fits : length l.kept.items ≡ length (leaves (g.T.ComposeTable.definitions l.table));
  left : l.lines ≡ drop l.index l.fn.lines;
  kept : (names : KeysymNames) → map (λ s. Some s) l.sequences ≡ map (λ v. defined_sequence names v.bytes) l.fn.lines
      → l.kept.items ≡ map (counting_line names (take l.index l.fn.lines)) (leaves (g.T.ComposeTable.definitions l.table));
  others : map (λ s. s.now) l.others.items ≡ map (λ s. s.now) l.fn.others.items ++ filter (λ s. not (is_sequence (g.T.ComposeTable.definitions l.table) s)) (take l.index l.sequences);
}
