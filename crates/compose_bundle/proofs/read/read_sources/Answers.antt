use Rattle.std.proofs.Common.{◌∙◌, ◌+◌, ℕ, sym, ap, length, length-append, []}
use Rattle.compose_bundle.specs.Decoded.{more_source, sources_at}
use Rattle.compose_bundle.proofs.Bundled.{next_source, no_source, not_decoded}
use Rattle.compose_bundle.proofs.read.read_sources.Goals as goal

pub returns-in-Err : goal.returns-in-Err
returns-in-Err c =
    not_decoded c.in-Err.fault (more_source c.loop-index.sources c.loop-index.rest.now) (sources_at c.args.count [] c.args.bytes.now)
    (λ e. sym c.loop-index.invariant.same ∙ no_source c.args.count c.loop-index.index c.loop-index.sources c.loop-index.rest.now c.loop-index-test.true e) c.in-Err.ensures

pub loop-index-preserved : goal.loop-index-preserved
loop-index-preserved c =
    let added = c.in-Ok.ensures in
    record {
      same =
          sym (next_source c.args.count c.loop-index.index c.loop-index.sources c.read_source.new.sources c.loop-index.rest.now c.in-Ok.left.now c.loop-index-test.true added)
          ∙ c.loop-index.invariant.same;
      many = ap length added.2 ∙ length-append c.loop-index.sources _ ∙ ap (λ (n : ℕ). n + 1) c.loop-index.invariant.many;
    }
