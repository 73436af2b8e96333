use Rattle.std.proofs.Common.{◌≡◌, ◌-◌, ◌∙◌, List, true, false, not, length, take, drop, ap, subst, sym, arith, rules}
use Rattle.std.specs.Ordering.{nat_cmp, is_le}
use Rattle.std.specs.Cmp.Lexicographic.{slice_cmp}
use Rattle.std.specs.List.Sorted.{IsPartitionedBy, IsPartitionPoint}
use Rattle.std.proofs.lemmas.List.{take_all, length-drop}
use Rattle.std.proofs.lemmas.List.Sorted.{IsPartitionPoint-from_clause}
use Rattle.compose_tree.specs.declared.table.LeafId.{LeafId}
use Rattle.compose_lookup.specs.TextIndex.{text_of}
use Rattle.compose_lookup.proofs.Sorted.{is_less, at_most, before_first, upto_first, rest_partitioned, between}
use Rattle.compose_lookup.proofs.text_index.with_text.Goals as goal

pub returns : goal.returns
returns g c =
    let key = text_of (g.T.ComposeTable.definitions c.args.table.now) in
    let xs = c.args.leaves.now in
    let text = c.args.text.now in
    let first = c.partition_point-first.result in
    let count = c.partition_point-count.result in
    let rest : List LeafId = take (length xs - first) (drop first xs) in
    let whole : rest ≡ drop first xs = take_all (length xs - first) (drop first xs) (omega (arith, length-drop first xs)) in
    let start = IsPartitionPoint-from_clause (λ (x : LeafId). is_less (key x) text) xs first c.partition_point-first.ensures.partitioned (before_first key xs c.requires text) (λ a r q k. search rules) in
    let divided : IsPartitionedBy (λ (x : LeafId). not (is_less text (key x))) rest =
    subst (IsPartitionedBy (λ (x : LeafId). not (is_less text (key x)))) (sym whole) (rest_partitioned (λ (x : LeafId). not (is_less text (key x))) xs first (upto_first key xs c.requires text)) in
    let end = IsPartitionPoint-from_clause (λ (x : LeafId). not (is_less text (key x))) rest count c.partition_point-count.ensures.partitioned divided (λ a r q k. (
      let le : r ≡ is_le (slice_cmp nat_cmp (key a.0.now) text) = search rules in le ∙ at_most (key a.0.now) text,
      search rules,
    )) in
    ap (take count) whole
    ∙ between key xs text first count start (subst (λ (ys : List LeafId). IsPartitionPoint (λ x. not (is_less text (key x)) ≡ true) (λ x. not (is_less text (key x)) ≡ false) ys count) whole end)
