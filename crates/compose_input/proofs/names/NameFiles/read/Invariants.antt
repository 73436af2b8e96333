use Rattle.std.proofs.Common.{◌≡◌, map, take}
use Rattle.compose_input.specs.Names.{AreNames}
use Rattle.compose_input.proofs.names.NameFiles.read.Given as goal

-- the files of the names before this one were read
abbrev pub invariant-loop-name : goal.invariant-loop-name
invariant-loop-name g l = record {
  kept : l.files.holds ≡ l.fn.files.holds;
  read : AreNames l.fn.files.holds (map (λ name. name.now) (take l.name-index l.names)) l.header;
}
