use Rattle.std.proofs.Common.{◌∙◌, ◌++◌, ap, ap₂}
use Rattle.compose_diff.specs.Counts.{counts_of}
use Rattle.compose_diff.specs.JsonAnswer.{json_counts}
use Rattle.compose_diff.proofs.json_counts.json_answer.Goals as goal

pub returns : goal.returns
returns c =
    c.in_ok-push_counts.ensures
    ∙ ap₂ (λ text counts. text ++ json_counts counts c.args.overlaps) c.in_ok-text.ensures (c.in_ok-counts.ensures ∙ ap (counts_of c.args.left.now) c.saturating_sub.ensures)
