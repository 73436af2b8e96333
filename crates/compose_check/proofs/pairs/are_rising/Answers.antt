use Rattle.std.proofs.Common.{◌∙◌, ◌-◌, ◌+◌, ◌&&◌, drop, sym, ap, arith}
use Rattle.std.proofs.lemmas.Bool.{and_left}
use Rattle.std.proofs.lemmas.List.{length-drop}
use Rattle.compose_model.specs.Certificate.{is_pair_before, pairs_rise}
use Rattle.compose_check.proofs.PairOrder.{next_rises, short_rises}
use Rattle.compose_check.proofs.pairs.are_rising.Goals as goal

pub returns-then-not-is_before : goal.returns-then-not-is_before
returns-then-not-is_before c =
    let pairs = c.args.certificate.now.pairs in
    sym (next_rises pairs c.loop-index.index c.pair.result c.pair-in-loop-index.result c.loop-index.auto.index c.pair.ensures c.pair-in-loop-index.ensures
    ∙ and_left (is_pair_before c.pair.result c.pair-in-loop-index.result) (pairs_rise (drop (c.loop-index.index + 1 - 1) pairs)) (sym c.is_before.ensures ∙ c.if-not-is_before.true))
    ∙ c.loop-index.invariant

pub loop-index-preserved : goal.loop-index-preserved
loop-index-preserved c =
    let pairs = c.args.certificate.now.pairs in
    sym (next_rises pairs c.loop-index.index c.pair.result c.pair-in-loop-index.result c.loop-index.auto.index c.pair.ensures c.pair-in-loop-index.ensures
    ∙ ap (λ b. b && pairs_rise (drop (c.loop-index.index + 1 - 1) pairs)) (sym c.is_before.ensures ∙ c.if-not-is_before.false))
    ∙ c.loop-index.invariant

pub returns : goal.returns
returns c =
    let pairs = c.args.certificate.now.pairs in
    sym (short_rises (drop (c.loop-index.index - 1) pairs) (omega (arith, length-drop (c.loop-index.index - 1) pairs, c.pair_count-index-end.ensures)))
    ∙ c.loop-index.invariant
