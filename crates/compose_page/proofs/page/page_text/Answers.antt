use Rattle.std.proofs.Common.{◌≡◌, ◌∙◌, ap, subst, string_bytes}
use Rattle.std.specs.Prelude.{IfOk}
use Rattle.compose_diff.specs.Counts.{counts_of}
use Rattle.compose_page.specs.Page as words
use Rattle.compose_page.proofs.page.page_text.Goals as goal

pub returns : goal.returns
returns c =
    subst (λ counts. IfOk c.counted_page.result (λ text. string_bytes text ≡ words.counted_page c.args.markup c.args.printed c.args.overlaps c.args.left.now counts))
    (c.in_ok-counts.ensures ∙ ap (counts_of c.args.left.now) c.saturating_sub.ensures) c.counted_page.ensures
