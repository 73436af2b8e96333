use Rattle.std.proofs.Common.{◌∷◌, [], ◌++◌, sym, ◌∙◌, ap}
use Rattle.compose_diff.specs.Members.{members_at}
use Rattle.compose_diff.proofs.Members.{at_key, items_of, added}
use Rattle.compose_diff.proofs.groups.add_row.Goals as goal

pub returns : goal.returns
returns c = λ other.
    (at_key c.insert.new.self other
    ∙ ap items_of (c.in_ok-insert.ensures.updates.0 other)
    ∙ added c.args.key other c.args.row.now c.push.new.self _ (members_at c.args.groups.now) (c.in_ok-push.ensures.items ∙ ap (λ rows. rows ++ c.args.row.now ∷ []) c.take_group-members.ensures.members)
    (sym (at_key c.take_group-members.new.groups other) ∙ c.take_group-members.ensures.others other))
