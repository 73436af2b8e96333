use Rattle.std.proofs.Common.{◌≡◌, take}
use Rattle.std.specs.List.{AllByRecursion}
use Rattle.compose_bundle.specs.Written.{HasLengths, so_far}
use Rattle.compose_bundle.proofs.write.write_bundle.Given as goal

abbrev pub invariant-loop-index : goal.invariant-loop-index
invariant-loop-index l = record {
  so_far : l.payload.items ≡ so_far l.sources l.index;
  lengths : AllByRecursion HasLengths (take l.index l.sources);
}
