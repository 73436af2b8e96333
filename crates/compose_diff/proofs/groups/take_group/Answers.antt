use Rattle.std.proofs.Common.{sym, ◌∙◌, ap}
use Rattle.compose_diff.proofs.Members.{at_key, items_of, taken}
use Rattle.compose_diff.proofs.groups.take_group.Goals as goal

pub returns-in-Some-clause-members : goal.returns-in-Some-clause-members
returns-in-Some-clause-members c = ap items_of c.in-Some.ensures.value ∙ sym (at_key c.args.groups.now c.args.key)

pub returns-in-Some-clause-others : goal.returns-in-Some-clause-others
returns-in-Some-clause-others c = λ other.
    (at_key c.swap_remove.new.self other ∙ ap items_of (c.in-Some.ensures.updates.0 other) ∙ taken c.args.key other _ _ (sym (at_key c.args.groups.now other)))

pub returns-in-None-clause-members : goal.returns-in-None-clause-members
returns-in-None-clause-members c = c.new.ensures.items ∙ ap items_of c.in-None.ensures.value ∙ sym (at_key c.args.groups.now c.args.key)

pub returns-in-None-clause-others : goal.returns-in-None-clause-others
returns-in-None-clause-others c = λ other.
    (at_key c.swap_remove.new.self other ∙ ap items_of (c.in-None.ensures.updates.0 other) ∙ taken c.args.key other _ _ (sym (at_key c.args.groups.now other)))
