use Rattle.std.proofs.Common.{◌≡◌, ◌-◌, length, []}
use Rattle.compose_bundle.specs.Decoded.{sources_at}
use Rattle.compose_bundle.proofs.read.read_sources.Given as goal

abbrev pub invariant-loop-index : goal.invariant-loop-index
invariant-loop-index l = record {
  same : sources_at (l.fn.count - l.index) l.sources l.rest ≡ sources_at l.fn.count [] l.fn.bytes;
  many : length l.sources ≡ l.index;
}
