use Rattle.std.proofs.Common.{◌≡◌, ◌++◌, List, map, take}
use Rattle.compose_readers.specs.Files.{FileRead}
use Rattle.compose_listed_as.specs.Reading.{AreReachedBy, includes_before}
use Rattle.compose_listed_as.proofs.reading.add_includes.Given as goal

-- the paths before this one have been looked at
abbrev pub invariant-loop-path : goal.invariant-loop-path
invariant-loop-path g l = record {
  kept : l.files.holds ≡ l.fn.files.holds;
  grown : (more : List FileRead) × (l.read.items ≡ l.fn.read.items ++ more);
  reached : AreReachedBy l.fn.files.holds l.reader.version l.root (includes_before l.fn.read.items l.at ++ map (λ path. path.items) (take l.path-index l.path-items)) l.read.items;
}
