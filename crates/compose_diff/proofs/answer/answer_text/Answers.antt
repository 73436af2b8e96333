use Rattle.std.proofs.Common.{◌∙◌, ◌++◌, ap, ap₂}
use Rattle.compose_diff.specs.Counts.{counts_of, counts_line}
use Rattle.compose_diff.specs.Overlaps.{overlaps_line}
use Rattle.compose_diff.proofs.answer.answer_text.Goals as goal

pub returns : goal.returns
returns c =
    c.in_ok-push_counts.ensures
    ∙ ap₂ (λ text counts. text ++ (overlaps_line c.args.overlaps ++ counts_line counts)) c.in_ok-text.ensures (c.in_ok-counts.ensures ∙ ap (counts_of c.args.left.now) c.saturating_sub.ensures)
