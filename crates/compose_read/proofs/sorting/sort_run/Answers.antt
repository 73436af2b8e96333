use Rattle.std.proofs.Common.{rules}
use Rattle.std.specs.Prelude.{Result, Ok, Err, OnOk}
use Rattle.std.proofs.lemmas.Cmp.{nat_list_cmp_total}
use Rattle.std.proofs.lemmas.Fn.{always_returns_same}
use Rattle.std.proofs.lemmas.List.Sorted.{ranks_by}
use Rattle.compose_read.specs.SortKeys.{by_sequence}
use Rattle.compose_read.specs.Rows.{sequence_at}
use Rattle.compose_read.specs.declared.rows.RowSpan.{RowSpan}
use Rattle.compose_read.proofs.sorting.sort_run.Goals as goal

pub returns-clause-stable : goal.returns-clause-stable
returns-clause-stable c =
    let ks = c.args.keysyms.now in
    c.sort_by.ensures.stable (by_sequence ks) (ranks_by nat_list_cmp_total (λ (p : RowSpan). sequence_at ks p)) (always_returns_same _ _ _ (λ a r f k. search rules))

on_ok : {X E P Q : Type 0} (r : Result X E) → (P → Q) → OnOk r P → OnOk r Q
on_ok (Ok x) f h = f h
on_ok (Err e) f h = tt

pub returns-clause-sorted : goal.returns-clause-sorted
returns-clause-sorted c =
    let ks = c.args.keysyms.now in
    on_ok c.sort_by.result (λ up. up (by_sequence ks) (ranks_by nat_list_cmp_total (λ (p : RowSpan). sequence_at ks p)) (always_returns_same _ _ _ (λ a r f k. search rules))) c.sort_by.ensures.sorted
