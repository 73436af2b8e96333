use Rattle.std.proofs.Common.{subst, List, ℕ}
use Rattle.std.specs.List.Sorted.{IsPermutation}
use Rattle.std.proofs.lemmas.List.Filters.{dedup_is}
use Rattle.compose_answer.proofs.Rising.{rising_is}
use Rattle.compose_explaining.proofs.explaining.in_rising_order.Goals as goal

pub returns : goal.returns
returns c =
    rising_is c.args.keys.now c.sort.new.self.items c.dedup.new.self.items
    (subst (λ (xs : List ℕ). IsPermutation xs c.sort.new.self.items) c.in_ok-fresh.ensures.items c.sort.ensures.permutation) c.in_ok-sort.ensures.sorted (dedup_is _ _ _ c.dedup.ensures.filtered)
