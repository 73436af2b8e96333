-- The result keysym of the sequence that a key completes.
use Rattle.std.specs.Prelude.{ℕ, List, slice_get, Option, Some, None, unwrap_or}
use Rattle.compose_tree.specs.declared.table.Target.{Target}
use Rattle.compose_tree.specs.declared.table.Target.TheVariants.{Node, Leaf}

-- the result keysym of the leaf to which a key leads, from these, one for each leaf; 0 if it
-- doesn't lead to a leaf, or if there are too few
abbrev pub result_at : List ℕ → Option Target → ℕ
result_at results None = 0
result_at results (Some (Node node)) = 0
result_at results (Some (Leaf leaf)) = unwrap_or (slice_get results leaf.0) 0
