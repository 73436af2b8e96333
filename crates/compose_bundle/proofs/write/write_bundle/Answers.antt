use Rattle.std.proofs.Common.{◌≡◌, ◌∙◌, ◌++◌, ℕ, List, length, take, ap, subst, arith}
use Rattle.std.specs.List.{AllByRecursion}
use Rattle.compose_bundle.specs.Bundle.{source_bytes}
use Rattle.compose_bundle.specs.Written.{HasLengths, so_far}
use Rattle.compose_bundle.proofs.Pieces.{source_fails, bytes_more, lengths_more, all_written}
use Rattle.compose_bundle.proofs.write.write_bundle.Goals as goal

pub returns-in-Err-put_source : goal.returns-in-Err-put_source
returns-in-Err-put_source c =
    source_fails c.args.sources.now c.args.certificate.now c.loop-index.index c.in-Err-put_source.ensures.0 c.in-Err-put_source.fault
    c.loop-index.payload.items c.put_source.new.payload.items c.in-Err-put_source.ensures.1 c.loop-index.invariant.so_far c.in-Err-put_source.ensures.2

pub loop-index-preserved : goal.loop-index-preserved
loop-index-preserved c =
    let h = c.in_default-put_source.ensures in
    record {
      so_far = h.2.1 ∙ ap (λ (y : List ℕ). y ++ source_bytes h.0) c.loop-index.invariant.so_far ∙ bytes_more c.args.sources.now c.loop-index.index h.0 h.1;
      lengths = lengths_more c.args.sources.now c.loop-index.index h.0 h.1 c.loop-index.invariant.lengths h.2.0;
    }

pub returns : goal.returns
returns c =
    let sources = c.args.sources.now in
    let all : c.loop-index.index ≡ length sources = omega (arith, c.count-count.ensures.count) in
    all_written sources c.args.certificate.now tt c.loop-index.payload.items c.put_sized_by_4.new.payload (c.loop-index.invariant.so_far ∙ ap (so_far sources) all)
    (subst (λ (n : ℕ). AllByRecursion HasLengths (take n sources)) all c.loop-index.invariant.lengths) c.count-count.ensures.sound
    (omega (arith, c.count-count.ensures.count)) c.in_default-put_sized_by_4.ensures
