use Rattle.std.proofs.Common.{◌<◌, length, arith}
use Rattle.std.specs.Prelude.{option_copied}
use Rattle.compose_skip.proofs.OtherSources.{faults_next, others_next}
use Rattle.compose_skip.proofs.others.other_lines.Goals as goal

pub loop-index-preserved : goal.loop-index-preserved
loop-index-preserved c =
    let names = c.args.names.now in let sources = c.args.sources.now in let index = c.loop-index.index in
    let count = c.count-index-end.ensures.count in
    let within : index < length sources = omega (arith, count, c.loop-index-test.true) in
    let name = option_copied c.name.result in let bytes = c.bytes.result.now in
    record {
      others = others_next names sources index within name bytes c.name.ensures c.bytes.ensures c.loop-index.others c.add_source.new.others c.in_ok-kept.kept.items
          c.loop-index.invariant.others c.in_ok-kept.ensures.lines c.in_ok-add_source.ensures;
      faults = faults_next names sources index within name bytes c.name.ensures c.bytes.ensures c.loop-index.faults.items c.other_bytes.new.faults.items
          c.loop-index.invariant.faults c.in_ok-kept.ensures.faults;
    }
