use Rattle.std.proofs.Common.{[], sym, ◌∙◌, ap}
use Rattle.std.specs.Prelude.{if◌then◌else◌}
use Rattle.compose_diff.specs.Causes.{has_gone}
use Rattle.compose_diff.specs.Members.{view, members_at}
use Rattle.compose_diff.proofs.Members.{has_common}
use Rattle.compose_diff.proofs.Firsts.{on_ok}
use Rattle.compose_diff.proofs.fold.push_group_of.Goals as goal

pub returns-in-Some-clause-others : goal.returns-in-Some-clause-others
returns-in-Some-clause-others c =
    on_ok c.push_group.result
    (λ other.
    (c.take_group.ensures.others other
    ∙ ap (λ b. if b then [] else members_at c.args.groups.now (view other)) (sym (has_common (has_gone c.args.gone.now) (view c.in-Some.key) (view other) c.args.row.now c.in-Some.ensures))))
