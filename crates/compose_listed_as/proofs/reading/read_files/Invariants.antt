use Rattle.std.proofs.Common.{◌≡◌, ◌≤◌, length}
use Rattle.compose_listed_as.specs.Reading.{AreReachedBy, includes_before}
use Rattle.compose_listed_as.proofs.reading.read_files.Given as goal

-- the includes of the files before this one have been looked at
abbrev pub invariant-loop-at : goal.invariant-loop-at
invariant-loop-at g l = record {
  kept : l.files.holds ≡ l.fn.files.holds;
  reached : AreReachedBy l.fn.files.holds l.reader.version l.root (includes_before l.read.items l.at) l.read.items;
  within : l.at ≤ length l.read.items;
}
