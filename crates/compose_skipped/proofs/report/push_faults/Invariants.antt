use Rattle.std.proofs.Common.{◌≡◌, ◌++◌, flat_map, map, take, string_bytes}
use Rattle.compose_skipped.specs.Reported.{skipped_line}
use Rattle.compose_skipped.proofs.report.push_faults.Given as goal

-- the lines of the faults so far, by the lines of the sources
abbrev pub invariant-loop-fault : goal.invariant-loop-fault
invariant-loop-fault l =
    (string_bytes l.text ≡ string_bytes l.fn.text ++ flat_map (skipped_line l.fn.sources (map string_bytes l.paths)) (take l.fault-index l.faults))
    × (l.lines ≡ l.fn.sources)
