use Rattle.std.proofs.Common.{◌≡◌, take}
use Rattle.compose_skip.specs.Faulty.{AreOthers, own_faults}
use Rattle.compose_skip.proofs.others.other_lines.Given as goal

abbrev pub invariant-loop-index : goal.invariant-loop-index
invariant-loop-index l = record {
  others : AreOthers l.names (take l.index l.sources) l.others;
  faults : l.faults.items ≡ own_faults l.names (take l.index l.sources);
}
