use Rattle.std.proofs.Common.{◌<◌, length, ◌∙◌, sym, ap, arith}
use Rattle.std.specs.Prelude.{option_copied, Some}
use Rattle.compose_service_runs.proofs.Adding.{added_next}
use Rattle.compose_service_runs.proofs.merged.add_all.Goals as goal

pub loop-index-preserved : goal.loop-index-preserved
loop-index-preserved c =
    let more = c.args.more.now in let index = c.loop-index.index in
    let count = c.count-index-end.ensures.count in
    let within : index < length more = omega (arith, count, c.loop-index-test.true) in
    added_next more index within c.args.sources.now c.loop-index.sources c.add_one.new.sources (option_copied c.name.result) c.in_ok-copy.copy.items c.name.ensures
    (c.bytes.ensures ∙ ap Some (sym c.in_ok-copy.ensures.items)) c.loop-index.invariant c.in_ok-add_one.ensures
