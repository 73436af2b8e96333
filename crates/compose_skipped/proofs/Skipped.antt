-- Tables without their faulty lines, and the faults of these lines.
use Rattle.std.proofs.Common.{◌≡◌, List, [], refl}
use Rattle.std.specs.Prelude.{Option, Some, None, Result, Ok, Err}
use Rattle.keysym_core.specs.Names.{KeysymNames}
use Rattle.keysym_core.specs.declared.fault.NameFault.{NameFault}
use Rattle.compose_read.specs.Lines.{Source}
use Rattle.compose_skip.specs.declared.others.OtherLines.{OtherLines}
use Rattle.compose_input.specs.declared.tables.TableFiles.{TableFiles}
use Rattle.compose_skipped.specs.Kept.{AreOtherLines, IsKept, IsOtherTable, faults_by}

-- if the names are read, these are the faults
pub some_faults : (names : Result KeysymNames NameFault) (sources : List Source) (others : OtherLines) → AreOtherLines names sources (Some others) → others.faults.items ≡ faults_by names sources
some_faults (Ok names) sources others are = are.1
some_faults (Err fault) sources others are = absurd (let clash : Some others ≡ None = are in cc)

-- if the names are refused, there are none
pub no_faults : (names : Result KeysymNames NameFault) (sources : List Source) → AreOtherLines names sources None → [] ≡ faults_by names sources
no_faults (Ok names) sources are = absurd are
no_faults (Err fault) sources are = refl

-- if the names are read, the table has only the lines without a fault
pub some_kept : (names : Result KeysymNames NameFault) (table kept : TableFiles) (others : OtherLines) → AreOtherLines names table.sources (Some others) → IsOtherTable table others.sources kept → IsKept names table kept
some_kept (Ok names) table kept others are other = (others.sources, are.0, other)
some_kept (Err fault) table kept others are other = absurd (let clash : Some others ≡ None = are in cc)

-- if the names are refused, the table stays the same
pub none_kept : (names : Result KeysymNames NameFault) (table : TableFiles) → AreOtherLines names table.sources None → IsKept names table table
none_kept (Ok names) table are = absurd are
none_kept (Err fault) table are = refl
