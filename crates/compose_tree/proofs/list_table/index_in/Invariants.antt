use Rattle.std.proofs.Common.{◌≡◌, ◌<◌, ℕ, slice_index}
use Rattle.compose_tree.specs.Rows.{keysyms_of}
use Rattle.compose_tree.proofs.list_table.index_in.Given as goal

abbrev pub invariant-loop-index : goal.invariant-loop-index
invariant-loop-index l = (k : ℕ) → k < l.index → slice_index (keysyms_of l.edges) k ≡ l.keysym → ⊥
