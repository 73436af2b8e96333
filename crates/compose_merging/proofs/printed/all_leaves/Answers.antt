use Rattle.std.proofs.Common.{◌∙◌, ◌++◌, ◌∷◌, [], List, sym, ap, arith}
use Rattle.std.proofs.lemmas.List.FromFn.{map-range_with_len_more}
use Rattle.compose_tree.specs.declared.table.LeafId.{LeafId}
use Rattle.compose_lookup.specs.TextIndex.{leaf_id}
use Rattle.compose_merging.proofs.printed.all_leaves.Goals as goal

pub loop-number-preserved : goal.loop-number-preserved
loop-number-preserved c =
    let n = c.loop-number.number in
    c.in_ok-push.ensures.items ∙ ap (λ (leaves : List LeafId). leaves ++ leaf_id n ∷ []) c.loop-number.invariant ∙ sym (map-range_with_len_more leaf_id 0 n n (omega arith))
