use Rattle.std.proofs.Common.{◌≡◌, map, take, string_bytes}
use Rattle.compose_input.specs.Tables.{AreEntries}
use Rattle.compose_input.proofs.tables.read_entries.Given as goal

-- what was read so far is that of the entries before this one
abbrev pub invariant-loop-entry : goal.invariant-loop-entry
invariant-loop-entry g l = record {
  kept : l.files.holds ≡ l.fn.files.holds;
  read : AreEntries l.fn.files.holds l.manifest l.at (take l.entry-index l.entry-items) (map string_bytes l.read.paths.items) l.read.sources;
}
