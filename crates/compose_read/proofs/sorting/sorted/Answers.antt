use Rattle.std.proofs.Common.{◌≡◌, ◌∙◌, length, sym, subst, rules}
use Rattle.std.specs.List.Sorted.{IsPermutation, IsSortedBy, IsStableBy}
use Rattle.std.proofs.lemmas.List.Sorted.{All-permutation}
use Rattle.compose_read.specs.SortKeys.{by_sequence}
use Rattle.compose_read.specs.Rows.{definition_at, IsPlaced}
use Rattle.compose_read.proofs.SortKeys.{given_back}
use Rattle.compose_read.proofs.SameSettled.{stable_same, sequences_tie}
use Rattle.compose_read.proofs.Spans.{rows_ascend}
use Rattle.compose_read.proofs.sorting.sorted.Goals as goal

pub returns-clause-ascend : goal.returns-clause-ascend
returns-clause-ascend c = λ texts.
    let ks = c.args.keysyms.now in
    let long : c.in_ok-sorted.sorted.len ≡ length c.sort_run.new.run = search rules in
    let written = given_back c.in_ok-sorted.sorted.len c.sort_run.new.run c.in_ok-sorted.sorted.items long in
    rows_ascend ks texts _ (subst (IsSortedBy (by_sequence ks)) (sym written) c.in_ok-sort_run.ensures.sorted)

pub returns-clause-same : goal.returns-clause-same
returns-clause-same c = λ texts.
    let ks = c.args.keysyms.now in let row = definition_at ks texts in let hinted = c.in_ok-sorted.sorted.items in
    let long : c.in_ok-sorted.sorted.len ≡ length c.sort_run.new.run = search rules in
    let written = given_back c.in_ok-sorted.sorted.len c.sort_run.new.run hinted long in
    let hint = stable_same row (by_sequence ks) c.args.spans.items hinted (sequences_tie row)
    (subst (λ ps. IsStableBy (by_sequence ks) ps hinted) c.deref.ensures.value c.in_ok-sorted.ensures.stable) in
    let sort = stable_same row (by_sequence ks) hinted _ (sequences_tie row)
    (subst (IsStableBy (by_sequence ks) hinted) (sym written) (subst (λ ps. IsStableBy (by_sequence ks) ps c.sort_run.new.run) c.deref_mut.ensures.value c.in_ok-sort_run.ensures.stable)) in
    λ v. sort v ∙ hint v

pub returns-clause-placed : goal.returns-clause-placed
returns-clause-placed c = λ texts h.
    let placed = IsPlaced c.args.keysyms.now texts in let hinted = c.in_ok-sorted.sorted.items in
    let long : c.in_ok-sorted.sorted.len ≡ length c.sort_run.new.run = search rules in
    let written = given_back c.in_ok-sorted.sorted.len c.sort_run.new.run hinted long in
    All-permutation placed hinted _ (subst (IsPermutation hinted) (sym written) (subst (λ ps. IsPermutation ps c.sort_run.new.run) c.deref_mut.ensures.value c.in_ok-sort_run.ensures.permutation))
    (All-permutation placed c.args.spans.items hinted (subst (λ ps. IsPermutation ps hinted) c.deref.ensures.value c.in_ok-sorted.ensures.permutation) h)
