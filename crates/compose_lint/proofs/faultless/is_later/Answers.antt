use Rattle.std.proofs.Common.{◌∙◌, ◌<◌, length, sym, arith}
use Rattle.compose_lint.proofs.LaterSource.{named_at, not_yet, later_at, never}
use Rattle.compose_lint.proofs.faultless.is_later.Goals as goal

pub returns-then-is_named : goal.returns-then-is_named
returns-then-is_named c =
    let sources = c.args.sources.now in let name = c.args.name.now in let index = c.loop-index.index in
    let within : index < length sources = omega (arith, c.loop-index-test.true, c.count-index-end.ensures.count) in
    later_at sources name c.args.source index within (sym (named_at sources name index within) ∙ sym c.is_named.ensures ∙ c.if-is_named.true) c.loop-index.invariant

pub loop-index-preserved : goal.loop-index-preserved
loop-index-preserved c =
    let sources = c.args.sources.now in let name = c.args.name.now in let index = c.loop-index.index in
    let within : index < length sources = omega (arith, c.loop-index-test.true, c.count-index-end.ensures.count) in
    not_yet sources name index (sym (named_at sources name index within) ∙ sym c.is_named.ensures ∙ c.if-is_named.false) c.loop-index.invariant

pub returns : goal.returns
returns c =
    let sources = c.args.sources.now in
    never sources c.args.name.now c.args.source c.loop-index.index (omega (arith, c.loop-index-test.false, c.loop-index.auto.index-end, c.count-index-end.ensures.count)) c.loop-index.invariant
