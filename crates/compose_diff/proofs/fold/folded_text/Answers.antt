use Rattle.std.proofs.Common.{◌∙◌}
use Rattle.compose_diff.specs.Causes.{has_gone}
use Rattle.compose_diff.proofs.Firsts.{folded_is}
use Rattle.compose_diff.proofs.fold.folded_text.Goals as goal

pub returns : goal.returns
returns c =
    folded_is _ _ (has_gone c.in_ok-gone.gone) c.args.rows.now c.args.left.now _ _ c.in_ok-push_groups.ensures c.new-text.ensures.bytes (c.deref-2.ensures.value ∙ c.in_ok-reported.ensures)
    (c.deref.ensures.value ∙ c.in_ok-reported.ensures) c.in_ok-gone.ensures
