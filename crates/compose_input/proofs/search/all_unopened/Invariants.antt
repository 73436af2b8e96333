use Rattle.std.proofs.Common.{◌≡◌, map, take, string_bytes}
use Rattle.compose_input.specs.Faults.{AreUnopened}
use Rattle.compose_input.proofs.search.all_unopened.Given as goal

-- the paths before this one were examined
abbrev pub invariant-loop-path : goal.invariant-loop-path
invariant-loop-path g l = record {
  kept : l.files.holds ≡ l.fn.files.holds;
  tried : AreUnopened l.fn.files.holds l.root (map string_bytes (take l.path-index l.paths)) l.tried.items;
}
