use Rattle.std.proofs.Common.{map, subst, sym}
use Rattle.std.specs.Prelude.{Result, Ok, Err, OnOk}
use Rattle.compose_lookup.specs.TextIndex.{sequence_at}
use Rattle.compose_listing.specs.Chosen.{AreInOrder}
use Rattle.compose_listing.specs.declared.form.ListOrder.{ListOrder}
use Rattle.compose_listing.proofs.Ordered.{all_moved, by_text, by_place}
use Rattle.compose_listing.proofs.order.put_in_order.Goals as goal

on_ok : {X E P Q : Type 0} (r : Result X E) → (P → Q) → OnOk r P → OnOk r Q
on_ok (Ok x) f h = f h
on_ok (Err e) f h = tt

pub returns-in-Text-clause-ordered : goal.returns-in-Text-clause-ordered
returns-in-Text-clause-ordered g c = λ visits are.
    on_ok c.sort_by_text.result
    (λ rise. subst (λ (o : ListOrder). AreInOrder o c.args.listed.now.names.now visits (g.T.ComposeTable.definitions c.args.listed.now.table.now)
    (map (sequence_at (g.T.ComposeTable.definitions c.args.listed.now.table.now)) c.args.leaves.now.items)
    (map (sequence_at (g.T.ComposeTable.definitions c.args.listed.now.table.now)) c.sort_by_text.new.leaves.items)) (sym c.in-Text.is) (by_text (g.T.ComposeTable.definitions c.args.listed.now.table.now) c.args.leaves.now.items c.sort_by_text.new.leaves.items c.requires c.sort_by_text.ensures.permutation
    c.node_count.ensures.settled rise c.sort_by_text.ensures.stable))
    c.sort_by_text.ensures.sorted

pub returns-in-File-clause-in_table : goal.returns-in-File-clause-in_table
returns-in-File-clause-in_table g c =
    all_moved (g.T.ComposeTable.definitions c.args.listed.now.table.now) c.args.leaves.now.items c.sort_by_place.new.leaves.items c.requires c.sort_by_place.ensures.same

pub returns-in-File-clause-ordered : goal.returns-in-File-clause-ordered
returns-in-File-clause-ordered g c = λ visits are.
    on_ok c.sort_by_place.result
    (λ rise. subst (λ (o : ListOrder). AreInOrder o c.args.listed.now.names.now visits (g.T.ComposeTable.definitions c.args.listed.now.table.now)
    (map (sequence_at (g.T.ComposeTable.definitions c.args.listed.now.table.now)) c.args.leaves.now.items)
    (map (sequence_at (g.T.ComposeTable.definitions c.args.listed.now.table.now)) c.sort_by_place.new.leaves.items)) (sym c.in-File.is) (by_place (g.T.ComposeTable.definitions c.args.listed.now.table.now) c.args.leaves.now.items c.sort_by_place.new.leaves.items c.requires c.sort_by_place.ensures.same
    c.args.listed.now.names.now visits c.args.listed.now.lines.now are rise))
    c.sort_by_place.ensures.sorted
