-- The result of typing keys, unless memory ran out.
use Rattle.std.specs.Prelude.{◌≡◌, ℕ, List, Result, Ok, Err, string_bytes}
use Rattle.std.specs.declared.string.String.{String}
use Rattle.std.specs.declared.alloc.Global.{Global}
use Rattle.keysym_core.specs.Names.{KeysymNames}
use Rattle.compose_model.specs.Table.{Definition}
use Rattle.compose_tree.specs.TableReturns.{NoTable, TableReturns}
use Rattle.compose_tree.specs.declared.reading.TableFault.TheVariants.{NoMemory as TableNoMemory}
use Rattle.compose_tool.specs.Typed.{typed_lines}
use Rattle.compose_tool.specs.declared.typing.TypeFault.{TypeFault}
use Rattle.compose_tool.specs.declared.typing.TypeFault.TheVariants.{Table, NoMemory as TypeNoMemory}

-- why keys were not typed: this fault of the table, unless memory ran out
abbrev pub TypeRefused : TypeFault → Result (List Definition) NoTable → Type 0
TypeRefused (Table TableNoMemory) expected = ⊥
TypeRefused (Table fault) expected = TableReturns {T = List Definition} (λ table. table) (Err fault) expected
TypeRefused TypeNoMemory expected = Unit {0}

-- the lines of the keys over this table, or why there are none
abbrev pub TypeReturns : KeysymNames → List ℕ → Result (String Global) TypeFault → Result (List Definition) NoTable → Type 0
TypeReturns names keys (Ok text) expected = (table : List Definition) × (expected ≡ Ok table) × (string_bytes text ≡ typed_lines names table keys)
TypeReturns names keys (Err fault) expected = TypeRefused fault expected
