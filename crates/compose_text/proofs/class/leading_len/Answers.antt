use Rattle.std.proofs.Common.{sym, ap, ◌∙◌, arith}
use lib.Count.{count_trailing_zeros}
use Rattle.compose_text.proofs.Lanes.{passed, stopped}
use Rattle.compose_text.proofs.class.leading_len.Goals as goal

pub returns-then-stops-ne0 : goal.returns-then-stops-ne0
returns-then-stops-ne0 g c =
    let stops = c.others-stops in
    let run = stopped g.C.ByteClass.has c.args.bytes.now c.loop-at.at 16 (omega arith) (omega arith) (omega (arith, stops.ensures)) ∙ ap (count_trailing_zeros 64) (sym stops.ensures) in
    omega (arith, run, c.loop-at.invariant.0)

pub loop-at-preserved : goal.loop-at-preserved
loop-at-preserved g c =
    let run = passed g.C.ByteClass.has c.args.bytes.now c.loop-at.at 16 (omega arith) (omega (arith, c.others-stops.ensures)) in
    (omega (arith, run, c.loop-at.invariant.0), omega arith)
