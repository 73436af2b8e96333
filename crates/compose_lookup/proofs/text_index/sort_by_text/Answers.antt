use Rattle.std.proofs.Common.{rules}
use Rattle.std.specs.Prelude.{Result, Ok, Err, OnOk}
use Rattle.std.proofs.lemmas.Cmp.{nat_list_cmp_total}
use Rattle.std.proofs.lemmas.Fn.{always_returns_same}
use Rattle.std.proofs.lemmas.List.Sorted.{ranks_by}
use Rattle.compose_lookup.specs.TextIndex.{text_of}
use Rattle.compose_lookup.proofs.Sorted.{is_less, stable_texts}
use Rattle.compose_lookup.proofs.text_index.sort_by_text.Goals as goal

pub returns-clause-stable : goal.returns-clause-stable
returns-clause-stable g c =
    let key = text_of (g.T.ComposeTable.definitions c.args.table.now) in
    λ text. stable_texts key _ _ c.sort_by.ensures.permutation (c.sort_by.ensures.stable (λ x y. is_less (key x) (key y)) (ranks_by nat_list_cmp_total key) (always_returns_same _ _ _ (λ a r f k. search rules))) text

on_ok : {X E P Q : Type 0} (r : Result X E) → (P → Q) → OnOk r P → OnOk r Q
on_ok (Ok x) f h = f h
on_ok (Err e) f h = tt

pub returns-clause-sorted : goal.returns-clause-sorted
returns-clause-sorted g c =
    let key = text_of (g.T.ComposeTable.definitions c.args.table.now) in
    on_ok c.sort_by.result (λ up. up (λ x y. is_less (key x) (key y)) (ranks_by nat_list_cmp_total key) (always_returns_same _ _ _ (λ a r f k. search rules))) c.sort_by.ensures.sorted
