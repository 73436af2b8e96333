use Rattle.std.proofs.Common.{◌∙◌, ◌<◌, ◌++◌, map, length, ap, arith}
use Rattle.compose_read.specs.Lines.{Source}
use Rattle.compose_lint.specs.Lost.{lost_lines}
use Rattle.compose_lint.proofs.OneMore.{one_more}
use Rattle.compose_lint.proofs.OneLine.{nothing, source_bytes}
use Rattle.compose_lint.proofs.lost.lost_count.Goals as goal

pub loop-source-preserved : goal.loop-source-preserved
loop-source-preserved c =
    let sources = c.args.sources.now in let i = c.loop-source.source in let found = map (λ x. x.now) c.loop-source.lost.items in
    let within : i < length sources = omega (arith, c.loop-source-test.true, c.count-source-end.ensures.count) in
    one_more (λ (s : Source). lost_lines s.bytes) sources i nothing found (map (λ x. x.now) c.push_lost.new.lost.items) _ within
    (c.in_ok-push_lost.ensures ∙ ap (λ bytes. found ++ lost_lines bytes) (source_bytes sources i c.bytes.result.now within c.bytes.ensures))
    c.loop-source.invariant
