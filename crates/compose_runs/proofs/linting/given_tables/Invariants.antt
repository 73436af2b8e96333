use Rattle.std.proofs.Common.{◌≡◌, map, take}
use Rattle.std.specs.Prelude.{Some}
use Rattle.compose_runs.specs.Linting.{AreReadTables}
use Rattle.compose_runs.proofs.linting.given_tables.Given as goal

-- the tables of the files so far; the content of the folder stays
abbrev pub invariant-loop-path : goal.invariant-loop-path
invariant-loop-path g l = record {
  kept : l.files.holds ≡ l.fn.files.holds;
  read : AreReadTables l.fn.files.holds l.environment l.places (map (λ path. Some path.now) (take l.path-index l.paths)) l.read.items;
}
