use Rattle.std.proofs.Common.{◌∙◌, filter, ap, arith}
use Rattle.std.proofs.lemmas.List.{take_all}
use Rattle.compose_diff.specs.Causes.{has_gone}
use Rattle.compose_diff.specs.Groups.{has}
use Rattle.compose_diff.specs.Members.{view, members_at, onto}
use Rattle.compose_diff.proofs.Members.{more_members, no_more_members}
use Rattle.compose_diff.proofs.groups.group_rows.Goals as goal
use Rattle.compose_diff.proofs.groups.group_rows.Goals.{in-Some+in_ok-add_row, in_default}

pub loop-row-preserved : goal.loop-row-preserved
loop-row-preserved c = λ key.
    (let rows = c.args.rows.now in let i = c.loop-row.row-index in let gone = has_gone c.args.gone.now in elim c.match-common.branch [
      | in-Some+in_ok-add_row w ↦ ap (λ m. members_at m (view key)) w.groups-is
          ∙ w.in_ok-add_row.ensures key
          ∙ ap (onto (view w.in-Some.key) (view key) _) (c.loop-row.invariant key)
          ∙ more_members gone (view w.in-Some.key) (view key) rows i _ c.loop-row-test.true w.in-Some.ensures
      | in_default w ↦ ap (λ m. members_at m (view key)) w.groups-is ∙ c.loop-row.invariant key ∙ no_more_members gone (view key) rows i _ c.loop-row-test.true w.in_default.ensures
    ])

pub returns : goal.returns
returns c = λ key. c.loop-row.invariant key ∙ ap (filter (has (has_gone c.args.gone.now) (view key))) (take_all c.loop-row.row-index c.args.rows.now (omega arith))
