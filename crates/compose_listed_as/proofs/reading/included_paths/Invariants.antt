use Rattle.std.proofs.Common.{◌≡◌, map, take}
use Rattle.std.specs.Prelude.{flat_map}
use Rattle.compose_listed_as.specs.Reached.{included}
use Rattle.compose_listed_as.proofs.reading.included_paths.Given as goal

-- the paths that the lines before this one include
abbrev pub invariant-loop-line : goal.invariant-loop-line
invariant-loop-line l = map (λ path. path.items) l.paths.items ≡ flat_map (λ line. included line.end) (take l.line-index l.file.lines)
