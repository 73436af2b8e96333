use Rattle.std.proofs.Common.{◌≡◌, [], take, filter, string_bytes, subst}
use Rattle.std.specs.Prelude.{if◌then◌else◌}
use Rattle.std.specs.List.{list_any}
use Rattle.compose_diff.specs.Causes.{has_gone}
use Rattle.compose_diff.specs.Groups.{Common, has}
use Rattle.compose_diff.specs.Members.{view, members_at}
use Rattle.compose_diff.proofs.Firsts.{key_of, key_again, lines_then, taken_then}
use Rattle.compose_diff.proofs.fold.push_groups.Goals as goal

pub loop-row-preserved : goal.loop-row-preserved
loop-row-preserved c =
    let shown = c.args.shown.now in
    let i = c.loop-row.row-index in
    let gone = has_gone c.args.gone.now in
    let old = c.loop-row.groups in
    let listed : (what : Common) → members_at old what ≡ (if list_any (has gone what) (take i shown) then [] else filter (has gone what) shown) =
    λ what. subst (λ it. members_at old it ≡ (if list_any (has gone it) (take i shown) then [] else filter (has gone it) shown)) (key_again c.args.shown what) (c.loop-row.invariant.taken (key_of c.args.shown what)) in record {
      lines = lines_then gone _ _ (string_bytes c.args.text.now) (members_at old) shown i _ c.loop-row-test.true c.in_ok-push_group_of.ensures.lines c.loop-row.invariant.lines listed;
      taken = λ key. taken_then gone _ _ (view key) shown i _ c.loop-row-test.true (c.in_ok-push_group_of.ensures.others key) (c.loop-row.invariant.taken key);
    }
