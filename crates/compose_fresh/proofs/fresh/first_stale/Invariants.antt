use Rattle.std.proofs.Common.{◌≡◌, ◌≤◌, List, drop}
use Rattle.std.specs.Prelude.{flat_map}
use Rattle.std.specs.List.{position_or_len}
use Rattle.compose_model.specs.Table.{Definition, has_key}
use Rattle.compose_model.specs.Nodes.{keysyms}
use Rattle.compose_fresh.specs.Conditions.{first_unmet}
use Rattle.compose_fresh.specs.Fresh.{one_fresh_conditions}
use Rattle.compose_fresh.proofs.fresh.first_stale.Given as goal

-- no keysym so far is used, and the conditions on the remaining ones have the same first fault as
-- those on all of them
abbrev pub invariant-loop-index : goal.invariant-loop-index
invariant-loop-index l =
    (l.index ≤ l.used)
    × ((old : List Definition) → l.used ≡ position_or_len (has_key (keysyms old)) l.fresh
    → first_unmet (flat_map (one_fresh_conditions old) (drop l.index l.fresh)) ≡ first_unmet (flat_map (one_fresh_conditions old) l.fresh))
