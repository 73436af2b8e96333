-- Settling the spans of rows settles the rows.
use Rattle.std.proofs.Common.{◌≡◌, ℕ, List, sym, subst}
use Rattle.compose_model.specs.Table.{Definition, IsSameTable}
use Rattle.compose_model.specs.declared.Rule.{Rule}
use Rattle.compose_read.specs.Settle.{settled}
use Rattle.compose_read.specs.Neighbours.{settled_neighbours, SequencesAscend}
use Rattle.compose_read.specs.Rows.{rows_of, ArePlaced}
use Rattle.compose_read.specs.declared.rows.RowSpan.{RowSpan}
use Rattle.compose_read.proofs.Neighbours.{sorted_settled}

-- what was sorted, among the same keysyms
module _ (rule : Rule) (table : List Definition) (keysyms seen texts : List ℕ) (spans sorted : List RowSpan) (here : seen ≡ keysyms) where
  -- sorted spans are in place if sorting leaves them in place
  pub sorted_placed : (ArePlaced seen texts spans → ArePlaced seen texts sorted) → ArePlaced keysyms texts spans → ArePlaced keysyms texts sorted
  sorted_placed f h = subst (λ ks. ArePlaced ks texts sorted) here (f (subst (λ ks. ArePlaced ks texts spans) (sym here) h))

  -- they settle to the same rows as the table
  pub sorted_settle : SequencesAscend (rows_of seen texts sorted) → IsSameTable (rows_of seen texts sorted) (rows_of seen texts spans) → rows_of keysyms texts spans ≡ table
      → settled_neighbours rule (rows_of keysyms texts sorted) ≡ settled rule table
  sorted_settle ascend same is =
      sorted_settled rule table (rows_of keysyms texts sorted) (subst (λ ks. SequencesAscend (rows_of ks texts sorted)) here ascend)
      (subst (IsSameTable (rows_of keysyms texts sorted)) is (subst (λ ks. IsSameTable (rows_of ks texts sorted) (rows_of ks texts spans)) here same))
