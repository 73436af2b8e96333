-- A pass over rows that keeps some and goes on with the others.
use Rattle.std.proofs.Common.{◌≡◌, List, [], ◌∷◌, ◌++◌, true, false, refl, sym, ◌∙◌, ap, append_assoc}
use Rattle.std.specs.Prelude.{Result, Ok, Err}
use Rattle.compose_model.specs.Table.{Definition}
use Rattle.compose_model.specs.declared.Rule.{Rule}
use Rattle.compose_read.specs.Settle.{Overlap}
use Rattle.compose_read.specs.Neighbours.{stays_before, put_if, settled_neighbours}
use Rattle.compose_read.specs.ReadReturns.{SettleReturns}
use Rattle.compose_read.specs.declared.settling.SettleFault.{SettleFault}
use Rattle.compose_read.specs.declared.settling.SettleFault.TheVariants as faults

-- these rows before the others
abbrev pub put_all : List Definition → Result (List Definition) Overlap → Result (List Definition) Overlap
put_all kept (Err o) = Err o
put_all kept (Ok rows) = Ok (kept ++ rows)

put_twice : (kept : List Definition) (d : Definition) (r : Result (List Definition) Overlap) → put_all kept (put_if d (Ok true) r) ≡ put_all (kept ++ d ∷ []) r
put_twice kept d (Err o) = refl
put_twice kept d (Ok rows) = ap Ok (sym (append_assoc kept (d ∷ []) rows))

module _ (rule : Rule) (kept : List Definition) (d e : Definition) (rows : List Definition) where
  -- a row that is kept goes after those that were kept before
  pub turn_kept : stays_before rule d e ≡ Ok true → put_all kept (settled_neighbours rule (d ∷ e ∷ rows)) ≡ put_all (kept ++ d ∷ []) (settled_neighbours rule (e ∷ rows))
  turn_kept h = ap (λ b. put_all kept (put_if d b (settled_neighbours rule (e ∷ rows)))) h ∙ put_twice kept d (settled_neighbours rule (e ∷ rows))

  -- and one that is not is left out
  pub turn_left : stays_before rule d e ≡ Ok false → put_all kept (settled_neighbours rule (d ∷ e ∷ rows)) ≡ put_all kept (settled_neighbours rule (e ∷ rows))
  turn_left h = ap (λ b. put_all kept (put_if d b (settled_neighbours rule (e ∷ rows)))) h

-- a fault does not depend on the type of the value
pub fault_says : {X Y Z : Type 0} (view : X → Z) (other : Y → Z) (fault : SettleFault) (reading_result : Result Z Overlap) → SettleReturns view (Err fault) reading_result → SettleReturns other (Err fault) reading_result
fault_says view other (faults.Overlap short long) reading_result h = h
fault_says view other faults.NoMemory reading_result h = tt
