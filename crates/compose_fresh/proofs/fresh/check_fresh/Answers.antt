use Rattle.std.proofs.Common.{◌∙◌, sym}
use Rattle.compose_fresh.proofs.FreshKeysyms.{each_of_rising, are_fresh, fresh_is_met}
use Rattle.compose_fresh.proofs.fresh.check_fresh.Goals as goal

pub returns-clause-clear : goal.returns-clause-clear
returns-clause-clear g c =
    let old = g.T.ComposeTable.definitions c.args.old.now in
    let fresh = c.args.fresh.now in
    λ h. are_fresh old fresh (sym (c.first_stale.ensures old c.first_used.ensures ∙ each_of_rising old fresh (sym c.are_rising.ensures ∙ c.if-not-are_rising.false)) ∙ h)

pub returns-clause-only : goal.returns-clause-only
returns-clause-only g c =
    let old = g.T.ComposeTable.definitions c.args.old.now in
    let fresh = c.args.fresh.now in
    λ a. c.first_stale.ensures old c.first_used.ensures ∙ each_of_rising old fresh (sym c.are_rising.ensures ∙ c.if-not-are_rising.false) ∙ fresh_is_met old fresh a
