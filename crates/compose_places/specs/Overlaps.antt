-- Sequences that are prefixes of longer ones: libxkbcommon, libX11, GTK and IBus let the longer
-- ones count.
use Rattle.std.specs.Prelude.{ℕ, List, length, filter, Result, Ok, Err}
use Rattle.keysym_core.specs.Names.{KeysymNames}
use Rattle.compose_model.specs.Table.{Definition, is_extended}
use Rattle.compose_model.specs.Nodes.{leaves}
use Rattle.compose_read.specs.Lines.{Source}
use Rattle.compose_read.specs.Read.{definitions_of}
use Rattle.compose_read.specs.declared.ReadFault.{ReadFault}

-- those among the definitions, each once, in rising order
abbrev pub shorter_ones : List Definition → List (List ℕ)
shorter_ones table = filter (is_extended table) (leaves table)

abbrev pub count_shorter : Result (List Definition) ReadFault → ℕ
count_shorter (Ok table) = length (shorter_ones table)
count_shorter (Err fault) = 0

-- their number among the definitions that are read from the root
abbrev pub overlap_count : KeysymNames → List Source → List ℕ → ℕ
overlap_count names sources root = count_shorter (definitions_of names sources root)
