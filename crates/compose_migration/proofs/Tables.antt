-- Why the table of a side can't be read.
use Rattle.std.proofs.Common.{◌≡◌, List, refl, ap}
use Rattle.std.specs.Prelude.{Result, Ok, Err}
use Rattle.compose_model.specs.Table.{Definition}
use Rattle.compose_read.specs.declared.ReadFault.{ReadFault}
use Rattle.compose_read.specs.declared.ReadFault.TheVariants as read_faults
use Rattle.compose_read.specs.declared.settling.SettleFault.TheVariants as settle_faults
use Rattle.compose_tree.specs.TableReturns.{NoTable, IsReadFault}
use Rattle.compose_tree.specs.declared.reading.TableFault.{TableFault}
use Rattle.compose_tree.specs.declared.reading.TableFault.TheVariants as table_faults
use Rattle.compose_tree.specs.declared.table.BuildFault.TheVariants as build_faults
use Rattle.compose_migration.specs.Migration.{NoAnswer, or_because}
use Rattle.compose_migration.specs.Refused.{TableFails}

read_at_all : (fault : ReadFault) (table : List Definition) → IsReadFault fault (Ok table) → ⊥
read_at_all read_faults.MissingRoot table h = cc
read_at_all (read_faults.NotUtf8 s l) table h = cc
read_at_all (read_faults.Lex s l f) table h = cc
read_at_all (read_faults.UnknownKeysym s l i) table h = cc
read_at_all (read_faults.IgnoredKeysym s l i) table h = cc
read_at_all (read_faults.MissingInclude s l) table h = cc
read_at_all (read_faults.IncludeDepth s l) table h = cc
read_at_all (read_faults.TooManyLines s l) table h = cc
read_at_all (read_faults.TooManyDefinitions s l) table h = cc
read_at_all read_faults.NoMemory table h = h

-- a table that is read has no fault
is_read : (fault : TableFault) (table : List Definition) → TableFails fault (Ok table) → ⊥
is_read (table_faults.Read fault) table h = read_at_all fault table h
is_read (table_faults.Settle (settle_faults.Overlap s l)) table h = cc
is_read (table_faults.Settle settle_faults.NoMemory) table h = h
is_read (table_faults.Build build_faults.TooManyNodes) table h = cc
is_read (table_faults.Build build_faults.NoMemory) table h = h
is_read table_faults.NoMemory table h = h

-- the reason why there is no table, which the fault names
pub why_none : (fault : TableFault) (expected : Result (List Definition) NoTable) → TableFails fault expected → (why : NoTable) × (expected ≡ Err why) × TableFails fault (Err why)
why_none fault (Ok table) h = absurd (is_read fault table h)
why_none fault (Err why) h = (why, refl, h)

-- the same for a part that is a table
pub table_refused : (of : NoTable → NoAnswer) (fault : TableFault) (expected : Result (List Definition) NoTable) → TableFails fault expected
    → (why : NoTable) × (or_because of expected ≡ Err (of why)) × TableFails fault (Err why)
table_refused of fault expected h = let none = why_none fault expected h in (none.0, ap (or_because of) none.1, none.2)
