use Rattle.std.proofs.Common.{◌≡◌, ◌++◌, ◌∷◌, ◌-◌, ◌≤◌, [], take, drop, length, string_bytes}
use Rattle.std.specs.Prelude.{flat_map}
use Rattle.compose_details.specs.Faulty.{line_of_fault, each_once}
use Rattle.compose_details.proofs.faulty.push_others.Given as goal

-- the lines so far and those of the remaining faults are all lines
abbrev pub invariant-loop-fault : goal.invariant-loop-fault
invariant-loop-fault l = record {
  lines : string_bytes l.text ++ flat_map (line_of_fault l.table) (take (20 - length l.reported.items) (each_once l.reported.items (drop l.fault-index l.others)))
      ≡ string_bytes l.fn.text ++ flat_map (line_of_fault l.table) (take 19 (each_once (l.fn.first ∷ []) l.others));
  few : length l.reported.items ≤ 20;
}
