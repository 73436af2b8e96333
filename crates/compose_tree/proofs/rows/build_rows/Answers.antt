use Rattle.std.proofs.Common.{◌≡◌, ℕ, List, length, take, arith, ap, ◌∙◌}
use Rattle.compose_model.specs.Table.{Definition}
use Rattle.compose_tree.specs.Rows.{shared, sequence_at, shared_with_last}
use Rattle.compose_tree.proofs.Adding.{adds_at, shared_on}
use Rattle.compose_tree.proofs.rows.build_rows.Goals as goal

-- what the sequence at an index shares with the one before it
shared_here : (all : List Definition) (i : ℕ) (previous s : List ℕ) (count : ℕ) → count ≡ shared previous s → ((t : List ℕ) → shared previous t ≡ shared_with_last (take i all) t)
    → s ≡ sequence_at all i → count ≡ shared_with_last (take i all) (sequence_at all i)
shared_here all i previous s count e last is = e ∙ last s ∙ ap (shared_with_last (take i all)) is

pub add_sequence-requires-clause-shared : goal.add_sequence-requires-clause-shared
add_sequence-requires-clause-shared c =
    shared_here c.args.sequences.now c.loop-index.index c.loop-index.previous.now c.sequence_of-sequence.result.now
    c.shared_prefix-shared.result c.shared_prefix-shared.ensures c.loop-index.invariant.last c.sequence_of-sequence.ensures

pub add_sequence-requires-clause-below : goal.add_sequence-requires-clause-below
add_sequence-requires-clause-below c =
    let all = c.args.sequences.now in
    let e =
    shared_here all c.loop-index.index c.loop-index.previous.now c.sequence_of-sequence.result.now
    c.shared_prefix-shared.result c.shared_prefix-shared.ensures c.loop-index.invariant.last c.sequence_of-sequence.ensures in
    let a = adds_at all c.loop-index.index c.len-count.ensures.settled (omega arith) in
    omega (arith, e, a.within, ap length c.sequence_of-sequence.ensures)

pub loop-index-preserved : goal.loop-index-preserved
loop-index-preserved c = record {
  rows_so_far = c.in_ok-add_sequence.ensures.rows;
  path_so_far = c.in_ok-add_sequence.ensures.path;
  last = λ s. shared_on c.args.sequences.now c.loop-index.index c.sequence_of-sequence.result.now s (omega arith) c.sequence_of-sequence.ensures;
  few = c.in_ok-add_sequence.ensures.few;
}
