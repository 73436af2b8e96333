use Rattle.std.proofs.Common.{rules}
use Rattle.std.specs.Prelude.{Result, Ok, Err, OnOk}
use Rattle.std.proofs.lemmas.Fn.{always_returns_same}
use Rattle.compose_listing.specs.Leaves.{place_at}
use Rattle.compose_listing.proofs.order.sort_by_place.Goals as goal

on_ok : {X E P Q : Type 0} (r : Result X E) → (P → Q) → OnOk r P → OnOk r Q
on_ok (Ok x) f h = f h
on_ok (Err e) f h = tt

pub returns-clause-sorted : goal.returns-clause-sorted
returns-clause-sorted c =
    on_ok c.sort_by_key.result (λ up. up (place_at c.args.lines.now) (always_returns_same _ _ _ (λ a r f k. search rules))) c.sort_by_key.ensures.sorted
