use Rattle.std.proofs.Common.{◌≡◌, ℕ, List, Bor}
use Rattle.std.specs.Prelude.{bytes_eq, filter}
use Rattle.indexmap.specs.IndexSet.{contains_by}
use Rattle.compose_lookup.specs.TextIndex.{is_among, leaf_ids, text_of}
use Rattle.compose_lookup.proofs.text_index.leaves_giving.Given as goal

-- those of the leaves so far that give one of the texts
abbrev pub invariant-loop-number : goal.invariant-loop-number
invariant-loop-number g l =
    (texts : List (List ℕ)) → ((q : Bor (List ℕ)) → contains_by (λ k. bytes_eq q.now k.now) l.asked ≡ is_among texts q.now)
    → l.leaves.items ≡ filter (λ leaf. is_among texts (text_of (g.T.ComposeTable.definitions l.table) leaf)) (leaf_ids l.number)
