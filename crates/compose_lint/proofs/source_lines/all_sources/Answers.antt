use Rattle.std.proofs.Common.{◌<◌, length, arith}
use Rattle.compose_lint.proofs.OneSource.{one_source}
use Rattle.compose_lint.proofs.source_lines.all_sources.Goals as goal

pub loop-source-preserved : goal.loop-source-preserved
loop-source-preserved c =
    let sources = c.args.sources.now in let source = c.loop-source.source in
    let within : source < length sources = omega (arith, c.loop-source-test.true, c.count-source-end.ensures.count) in
    one_source c.args.names.now sources c.args.is_all source within c.bytes-bytes.result.now c.in_ok-lines.lines.items c.in_ok-included.included.items c.loop-source.files.items c.push.new.self.items _
    c.bytes-bytes.ensures c.in_ok-lines.ensures c.in_ok-included.ensures c.in_ok-push.ensures.items c.loop-source.invariant
