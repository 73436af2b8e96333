use Rattle.std.proofs.Common.{◌≡◌, ◌++◌, take, string_bytes}
use Rattle.std.specs.Prelude.{flat_map}
use Rattle.compose_listed_as.specs.Report.{other_line}
use Rattle.compose_listed_as.proofs.report.push_others.Given as goal

-- the lines so far
abbrev pub invariant-loop-one : goal.invariant-loop-one
invariant-loop-one l = string_bytes l.text ≡ string_bytes l.initial.text ++ flat_map (λ j. other_line l.files l.all j.now) (take l.one-index l.others)
