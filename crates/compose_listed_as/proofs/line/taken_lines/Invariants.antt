use Rattle.std.proofs.Common.{◌≡◌, take, string_bytes}
use Rattle.std.specs.Prelude.{flat_map}
use Rattle.compose_listed_as.specs.Line.{taken_line}
use Rattle.compose_listed_as.proofs.line.taken_lines.Given as goal

-- the lines so far
abbrev pub invariant-loop-one : goal.invariant-loop-one
invariant-loop-one l = string_bytes l.lines ≡ flat_map (taken_line l.names l.files) (take l.one-index l.all)
