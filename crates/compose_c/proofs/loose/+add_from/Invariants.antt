use Rattle.std.proofs.Common.{◌≡◌, ◌-◌, ℕ, List, [], ◌∷◌, ◌++◌, length, drop}
use Rattle.std.specs.List.{flat_map}
use Rattle.compose_model.specs.Table.{Definition}
use Rattle.compose_model.specs.Nodes.{edges}
use Rattle.compose_c.specs.Arrays.{AreOf, AreFirst, LeadsTo, sequences_from}
use Rattle.compose_c.proofs.loose.+add_from.Given as goal

abbrev pub decreases-add_from : goal.decreases-add_from
decreases-add_from l = 33 - length l.path.now.items

-- the sequences from the edges so far are added
abbrev pub invariant-loop-edge : goal.invariant-loop-edge
invariant-loop-edge l = record {
  path : l.path.items ≡ l.initial.path.items;
  added : (table : List Definition) (others : List (List ℕ)) → AreOf l.fn.arrays table → LeadsTo table l.initial.path.items l.fn.target
      → AreFirst table l.initial.draft.table (sequences_from table l.initial.path.items ++ others)
      → AreFirst table l.draft.table (flat_map (λ k. sequences_from table (l.initial.path.items ++ k ∷ [])) (drop l.edge-index (edges table l.initial.path.items)) ++ others);
}
