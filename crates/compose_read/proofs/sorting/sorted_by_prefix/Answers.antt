use Rattle.std.proofs.Common.{◌≡◌, ◌%◌, ◌<◌, ℕ, List, length, map, sym, subst, ◌∙◌, ap, arith, rules}
use Rattle.std.specs.List.{All}
use Rattle.std.specs.List.Sorted.{IsPermutation, IsStableBy}
use Rattle.std.proofs.lemmas.List.{length-map}
use Rattle.std.proofs.lemmas.List.Sorted.{IsPermutation-trans}
use Rattle.compose_read.specs.SortKeys.{by_sequence}
use Rattle.compose_read.specs.declared.rows.RowSpan.{RowSpan}
use Rattle.compose_read.proofs.SortKeys.{none, given_back, span_of, sorted_within, picked_permutation, picked_stable}
use Rattle.compose_read.proofs.sorting.sorted_by_prefix.Goals as goal

pub picked_spans-requires : goal.picked_spans-requires
picked_spans-requires c =
    subst (All (λ n. n % 131072 < length c.args.spans.now)) (sym c.deref.ensures.value)
    (sorted_within c.args.keysyms.now c.args.spans.now c.in_ok-sort_keys.sort_keys.items c.in_ok-sort_keys.ensures c.sort_unstable.new.self.items c.sort_unstable.ensures.permutation)

pub sort_runs-requires : goal.sort_runs-requires
sort_runs-requires c =
    let span = span_of c.args.keysyms.now c.args.spans.now c.in_ok-sort_keys.sort_keys.items c.in_ok-sort_keys.ensures in
    let picked_spans = ap (λ (ps : List RowSpan). length ps) (c.deref_mut.ensures.value ∙ c.in_ok-picked_spans.ensures none) ∙ length-map c.deref.result.now span in
    let sort_keys = ap (λ (ns : List ℕ). length ns) (c.deref-2.ensures.value ∙ sym c.deref.ensures.value) in
    omega arith

pub returns-clause-permutation : goal.returns-clause-permutation
returns-clause-permutation c =
    let ks = c.args.keysyms.now in let ps = c.args.spans.now in let ns = c.in_ok-sort_keys.sort_keys.items in let are = c.in_ok-sort_keys.ensures in let sorted = c.sort_unstable.new.self.items in
    let picked_spans = sym (c.deref_mut.ensures.value ∙ c.in_ok-picked_spans.ensures none ∙ ap (map (span_of ks ps ns are)) c.deref.ensures.value) in
    let long : c.in_ok-picked_spans.picked_spans.len ≡ length c.sort_runs.new.spans = search rules in
    let written = given_back c.in_ok-picked_spans.picked_spans.len c.sort_runs.new.spans c.in_ok-picked_spans.picked_spans.items long in
    subst (IsPermutation ps) (sym written)
    (IsPermutation-trans ps _ _ (subst (IsPermutation ps) picked_spans (picked_permutation ks ps ns are sorted c.sort_unstable.ensures.permutation)) c.sort_runs.ensures.permutation)

pub returns-clause-stable : goal.returns-clause-stable
returns-clause-stable c =
    let ks = c.args.keysyms.now in let ps = c.args.spans.now in let ns = c.in_ok-sort_keys.sort_keys.items in let are = c.in_ok-sort_keys.ensures in let sorted = c.sort_unstable.new.self.items in
    let picked_spans = sym (c.deref_mut.ensures.value ∙ c.in_ok-picked_spans.ensures none ∙ ap (map (span_of ks ps ns are)) c.deref.ensures.value) in
    let long : c.in_ok-picked_spans.picked_spans.len ≡ length c.sort_runs.new.spans = search rules in
    let written = given_back c.in_ok-picked_spans.picked_spans.len c.sort_runs.new.spans c.in_ok-picked_spans.picked_spans.items long in
    let stable = subst (IsStableBy (by_sequence ks) ps) picked_spans (picked_stable ks ps ns are sorted c.sort_unstable.ensures.permutation c.sort_unstable.ensures.sorted) in
    subst (IsStableBy (by_sequence ks) ps) (sym written) (λ p. c.sort_runs.ensures.stable p ∙ stable p)
