use Rattle.std.proofs.Common.{◌≡◌, [], map, drop, ◌++◌, true, List}
use Rattle.keysym_core.specs.Names.{NameRow}
use Rattle.keysym_core.specs.Table.{are_addable}
use Rattle.keysym_core.proofs.table.NameTable.of_rows.Given as goal

-- the rows that are left can be added after those that are there, and complete them
abbrev pub invariant-loop-name : goal.invariant-loop-name
invariant-loop-name l =
    let left : List NameRow = map (λ r. record { name = r.0.now; value = r.1 }) (drop l.name-index l.rows) in
    (l.table.names ++ left ≡ map (λ r. record { name = r.0.now; value = r.1 }) l.rows) × (l.table.characters ≡ []) × (are_addable l.table.names left ≡ true)
