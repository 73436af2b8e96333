use Rattle.std.proofs.Common.{[]}
use Rattle.compose_bundle.specs.Decoded.{sources_at, bundle_of}
use Rattle.compose_bundle.proofs.Bundled.{no_sources, not_decoded}
use Rattle.compose_bundle.proofs.read.decode.Goals as goal

pub returns-in-Err : goal.returns-in-Err
returns-in-Err c =
    not_decoded c.in-Err.fault (sources_at c.in-Some.count [] c.in-Some.rest.now) (bundle_of c.args.bytes.now)
    (no_sources c.args.bytes.now c.in-Some.ensures.0 c.in-Some.rest.now c.in-Some.count c.in-Some.ensures.1 c.in-Some.ensures.2) c.in-Err.ensures
