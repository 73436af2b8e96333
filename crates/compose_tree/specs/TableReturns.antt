-- The result of reading a table: its settled definitions, or the first fault.
use Rattle.std.specs.Prelude.{◌≡◌, ℕ, nat_le, List, [], ◌∷◌, length, if◌then◌else◌, Result, Ok, Err}
use Rattle.keysym_core.specs.Names.{KeysymNames}
use Rattle.compose_model.specs.Table.{Definition}
use Rattle.compose_model.specs.Nodes.{nodes}
use Rattle.compose_model.specs.declared.Rule.{Rule}
use Rattle.compose_read.specs.Lines.{Source}
use Rattle.compose_read.specs.Read.{definitions_of}
use Rattle.compose_read.specs.Settle.{Overlap, settled}
use Rattle.compose_read.specs.declared.ReadFault.{ReadFault}
use Rattle.compose_read.specs.declared.ReadFault.TheVariants as read_faults
use Rattle.compose_read.specs.declared.settling.SettleFault.{SettleFault}
use Rattle.compose_read.specs.declared.settling.SettleFault.TheVariants as settle_faults
use Rattle.compose_tree.specs.Targets.{max_nodes}
use Rattle.compose_tree.specs.declared.table.BuildFault.{BuildFault}
use Rattle.compose_tree.specs.declared.table.BuildFault.TheVariants as build_faults
use Rattle.compose_tree.specs.declared.reading.TableFault.{TableFault}
use Rattle.compose_tree.specs.declared.reading.TableFault.TheVariants.{Read, Settle, Build, NoMemory}

-- ---- the definition

-- why a table can't be read
pub data NoTable : Type 0 where
  unread : ReadFault → NoTable
  overlapping : Overlap → NoTable
  too_many_nodes : NoTable

-- the rows to which the definitions are settled, unless they have too many nodes
abbrev pub bounded : Result (List Definition) Overlap → Result (List Definition) NoTable
bounded (Err overlap) = Err (overlapping overlap)
bounded (Ok rows) = if nat_le (length (nodes rows)) max_nodes then Ok rows else Err too_many_nodes

abbrev pub settled_by : Rule → Result (List Definition) ReadFault → Result (List Definition) NoTable
settled_by rule (Err fault) = Err (unread fault)
settled_by rule (Ok definitions) = bounded (settled rule definitions)

-- the settled definitions that are read from the root by the rule, or the first fault
abbrev pub table_of : KeysymNames → List Source → List ℕ → Rule → Result (List Definition) NoTable
table_of names sources root rule = settled_by rule (definitions_of names sources root)

-- the same if the root is the first source
abbrev pub first_table : KeysymNames → List Source → Rule → Result (List Definition) NoTable
first_table names [] rule = Err (unread read_faults.MissingRoot)
first_table names (s ∷ sources) rule = table_of names (s ∷ sources) s.name rule

-- ---- the result of a call

-- a fault of a part as a fault of the whole; running out of memory is a fault of the whole
abbrev pub read_raised : ReadFault → TableFault
read_raised read_faults.NoMemory = NoMemory
read_raised fault = Read fault

abbrev pub settle_raised : SettleFault → TableFault
settle_raised settle_faults.NoMemory = NoMemory
settle_raised fault = Settle fault

abbrev pub build_raised : BuildFault → TableFault
build_raised build_faults.NoMemory = NoMemory
build_raised fault = Build fault

-- the fault of reading is the specified one
abbrev pub IsReadFault : ReadFault → Result (List Definition) NoTable → Type 0
IsReadFault read_faults.NoMemory expected = ⊥
IsReadFault fault expected = expected ≡ Err (unread fault)

-- the specified value or fault, unless memory runs out
abbrev pub TableReturns : {T : Type 0} → (T → List Definition) → Result T TableFault → Result (List Definition) NoTable → Type 0
TableReturns view (Ok table) expected = expected ≡ Ok (view table)
TableReturns view (Err (Read fault)) expected = IsReadFault fault expected
TableReturns view (Err (Settle (settle_faults.Overlap short long))) expected = expected ≡ Err (overlapping (record { short = short.0.items; long = long.0.items }))
TableReturns view (Err (Settle settle_faults.NoMemory)) expected = ⊥
TableReturns view (Err (Build build_faults.TooManyNodes)) expected = expected ≡ Err too_many_nodes
TableReturns view (Err (Build build_faults.NoMemory)) expected = ⊥
TableReturns view (Err NoMemory) expected = Unit {0}
