use Rattle.std.proofs.Common.{◌≡◌, take}
use Rattle.compose_given.specs.Reads.{AreTables}
use Rattle.compose_given.proofs.reading.read_tables.Given as goal

-- the tables so far are read
abbrev pub invariant-loop-each : goal.invariant-loop-each
invariant-loop-each g l = record {
  kept : l.files.holds ≡ l.fn.files.holds;
  read : AreTables l.fn.files.holds l.environment (take l.each-index l.wanted) l.tables.items;
}
