use Rattle.std.proofs.Common.{◌++◌}
use Rattle.std.specs.Prelude.{option_to_list}
use Rattle.std.specs.Vec.Iter.{into_iter_items}
use Rattle.compose_read.proofs.Spans.{PassesOn}
use Rattle.compose_read.proofs.settling.settle_sorted.Given as goal

abbrev pub invariant-loop-span : goal.invariant-loop-span
invariant-loop-span l =
    (goal.iterator-loop-span).can_next l.span-iterator × (goal.iterator-loop-span).is_finite l.span-iterator
    × PassesOn l.keysyms l.rule l.fn.spans.items l.kept.items (option_to_list l.last ++ into_iter_items l.span-iterator)
