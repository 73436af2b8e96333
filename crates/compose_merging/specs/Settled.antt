-- The rows of a table that is read, however many nodes they have.
use Rattle.std.specs.Prelude.{ℕ, List, Result, Ok, Err}
use Rattle.keysym_core.specs.Names.{KeysymNames}
use Rattle.compose_model.specs.Table.{Definition}
use Rattle.compose_model.specs.declared.Rule.{Rule}
use Rattle.compose_read.specs.Lines.{Source}
use Rattle.compose_read.specs.Read.{definitions_of}
use Rattle.compose_read.specs.Settle.{Overlap, settled}
use Rattle.compose_read.specs.declared.ReadFault.{ReadFault}
use Rattle.compose_tree.specs.TableReturns.{NoTable, overlapping, unread}

abbrev pub settled_rows : Result (List Definition) Overlap → Result (List Definition) NoTable
settled_rows (Err overlap) = Err (overlapping overlap)
settled_rows (Ok rows) = Ok rows

abbrev pub rows_by : Rule → Result (List Definition) ReadFault → Result (List Definition) NoTable
rows_by rule (Err fault) = Err (unread fault)
rows_by rule (Ok definitions) = settled_rows (settled rule definitions)

-- the settled definitions that are read from the root by the rule, or the first fault
abbrev pub rows_of : KeysymNames → List Source → List ℕ → Rule → Result (List Definition) NoTable
rows_of names sources root rule = rows_by rule (definitions_of names sources root)
