use Rattle.std.proofs.Common.{◌∙◌, sym}
use Rattle.compose_lint.specs.Lines.{all_lines}
use Rattle.compose_lint.proofs.AlikeOnes.{found_alike, none_alike}
use Rattle.compose_lint.proofs.kinds.push_form_of.Goals as goal

pub returns-in_ok-push-2 : goal.returns-in_ok-push-2
returns-in_ok-push-2 c =
    c.in_ok-push-2.ensures.items
    ∙ found_alike (all_lines c.args._files.now) c.args.text.now _ _ (sym c.in_ok-is_normal.ensures ∙ c.if-not-branch.false) (c.in-Some.ensures.value ∙ c.requires c.args.text.now)

pub returns-in_default : goal.returns-in_default
returns-in_default c = none_alike (all_lines c.args._files.now) c.args.text.now _ (sym c.in_ok-is_normal.ensures ∙ c.if-not-branch.false) (c.in_default.ensures.value ∙ c.requires c.args.text.now)
