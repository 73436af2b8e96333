use Rattle.std.proofs.Common.{◌∙◌, ◌++◌, ap₂, sym}
use Rattle.compose_lint.specs.Accepted.{listed_text, unless}
use Rattle.compose_lint.proofs.Among.{filter_next}
use Rattle.compose_lint.proofs.accepted.not_accepted.Goals as goal

pub loop-row-preserved : goal.loop-row-preserved
loop-row-preserved c =
    let row = c.row-item.result in
    c.in_ok-push_unless.ensures ∙ ap₂ (λ rs b. rs ++ unless b row) c.loop-row.invariant (c.in_ok-among.ensures (listed_text row))
    ∙ sym (filter_next c.args.lines.now c.args.rows.now c.loop-row.row-index row c.loop-row-test.true c.row-item.is)
