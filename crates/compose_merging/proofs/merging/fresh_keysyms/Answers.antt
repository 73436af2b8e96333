use Rattle.std.proofs.Common.{◌≡◌, List, ℕ, refl, subst, nat_cmp}
use Rattle.std.specs.Prelude.{IsTrue}
use Rattle.std.proofs.lemmas.List.Filters.{dedup_is}
use Rattle.compose_model.specs.Certificate.{keys_rise}
use Rattle.compose_model.specs.Nodes.{rising}
use Rattle.compose_merging.specs.Steps.{placed_parts}
use Rattle.compose_diff_rows.proofs.Joining.{rising_of, fresh_met, fresh_unmet}
use Rattle.compose_merging.proofs.merging.fresh_keysyms.Goals as goal

pub returns-in-Some : goal.returns-in-Some
returns-in-Some g c =
    let move = placed_parts g.T.ComposeTable.definitions c.args.migration.now in
    let fresh = c.dedup.new.self.items in
    let is : fresh ≡ rising nat_cmp move.keys =
    rising_of move.keys c.deref.result.now _ c.sort.new.self.items fresh c.deref.ensures.value c.in_ok-fresh.ensures.items c.sort.ensures.permutation c.in_ok-sort.ensures.sorted
    (dedup_is _ _ _ c.dedup.ensures.filtered) in
    fresh_unmet move fresh c.deref-2.result.now is c.deref-2.ensures.value c.in-Some.fault c.in-Some.ensures.exact

pub returns-in-None : goal.returns-in-None
returns-in-None g c =
    let move = placed_parts g.T.ComposeTable.definitions c.args.migration.now in
    let fresh = c.dedup.new.self.items in
    let is : fresh ≡ rising nat_cmp move.keys =
    rising_of move.keys c.deref.result.now _ c.sort.new.self.items fresh c.deref.ensures.value c.in_ok-fresh.ensures.items c.sort.ensures.permutation c.in_ok-sort.ensures.sorted
    (dedup_is _ _ _ c.dedup.ensures.filtered) in
    let met = fresh_met move fresh c.deref-2.result.now is c.deref-2.ensures.value c.in-None.ensures.exact in
    (met, subst (λ (xs : List ℕ). IsTrue (keys_rise xs)) c.deref-2.ensures.value (c.in-None.ensures.clear refl).rise)
