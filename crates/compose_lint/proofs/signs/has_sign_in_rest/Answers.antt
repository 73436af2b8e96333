use Rattle.std.proofs.Common.{◌∙◌, ◌||◌, ◌+◌, drop, get_or, ap, arith}
use Rattle.compose_lint.specs.Lost.{has_sign_after, openings}
use Rattle.compose_lint.proofs.OneSign.{one_sign, one_opening, no_opening}
use Rattle.compose_lint.proofs.signs.has_sign_in_rest.Goals.{then-second-eq60, else-second-eq60}
use Rattle.compose_lint.proofs.signs.has_sign_in_rest.Goals as goal

pub loop-second-preserved : goal.loop-second-preserved
loop-second-preserved c =
    let line = c.args.rest.now in let i = c.loop-second.second-index in let found = c.loop-second.found in let first = c.loop-second.first in
    let within = c.loop-second-test.true in
    let before = c.loop-second.invariant in
    let signs = ap (λ t. (found || t) || has_sign_after (get_or line i 0) (drop (i + 1) line)) c.is_sign-found.ensures ∙ one_sign line i first found _ within before.0 in
    elim c.if-second-eq60.branch [
      | then-second-eq60 w ↦ (
        ap (λ b. (found || c.is_sign-found.result) || has_sign_after b (drop (i + 1) line)) w.first-is ∙ signs,
        ap (λ n. n + openings (drop (i + 1) line)) w.openings-is ∙ one_opening line i c.loop-second.openings _ within w.if-second-eq60.true before.1,
        (let is = w.openings-is in let few = before.2 in omega (arith, is, few)),
      )
      | else-second-eq60 w ↦ (
        ap (λ b. (found || c.is_sign-found.result) || has_sign_after b (drop (i + 1) line)) w.first-is ∙ signs,
        ap (λ n. n + openings (drop (i + 1) line)) w.openings-is ∙ no_opening line i c.loop-second.openings _ within w.if-second-eq60.false before.1,
        (let is = w.openings-is in let few = before.2 in omega (arith, is, few)),
      )
    ]
