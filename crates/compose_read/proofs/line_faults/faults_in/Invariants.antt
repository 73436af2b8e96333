use Rattle.std.proofs.Common.{◌≡◌, ◌≤◌, ◌-◌, ◌++◌, length, take}
use Rattle.std.specs.List.{filter_map}
use Rattle.compose_read.specs.Faults.{fault_of}
use Rattle.compose_read.proofs.line_faults.faults_in.Given as goal

-- the faults so far, and those of the lines that are left, are those of all lines
abbrev pub invariant-loop-visits : goal.invariant-loop-visits
invariant-loop-visits l = record {
  reported : l.faults.items ++ filter_map (fault_of l.names l.sources) (take (1000000 - l.lines) l.visits) ≡ filter_map (fault_of l.names l.sources) (take 1000000 l.fn.visits);
  few : length l.faults.items ≤ l.most;
  read : l.lines ≤ 1000000;
}

abbrev pub decreases-loop-visits : goal.decreases-loop-visits
decreases-loop-visits l = 1000000 - l.lines
