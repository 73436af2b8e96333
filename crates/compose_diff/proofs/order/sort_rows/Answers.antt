use Rattle.std.proofs.Common.{rules}
use Rattle.std.proofs.lemmas.List.Sorted.{answers_always}
use Rattle.compose_diff.specs.Order.{rank}
use Rattle.compose_diff.proofs.order.sort_rows.Goals as goal

pub returns-clause-sorted : goal.returns-clause-sorted
returns-clause-sorted c = c.in_ok-sort_by_key.ensures.sorted rank (answers_always _ _ _ (λ f a r g h. search rules))
