use Rattle.std.proofs.Common.{◌≡◌, map, take, None}
use Rattle.std.specs.Prelude.{string_bytes}
use Rattle.compose_user.specs.Paths.{IsFirstFile}
use Rattle.compose_user.proofs.table.first_file.Given as goal

-- no path so far has a file
abbrev pub invariant-loop-path : goal.invariant-loop-path
invariant-loop-path g l = record {
  kept : l.files.holds ≡ l.initial.files.holds;
  none : IsFirstFile l.initial.files.holds (map string_bytes (take l.path-index l.paths)) None;
}
