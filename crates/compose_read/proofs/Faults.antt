-- A fault of a part is the fault of the whole.
use Rattle.std.proofs.Common.{◌≡◌, sym, subst}
use Rattle.std.specs.Prelude.{Result, Err}
use Rattle.compose_read.specs.ReadReturns.{ReadReturns}
use Rattle.compose_read.specs.declared.ReadFault.{ReadFault}
use Rattle.compose_read.specs.declared.ReadFault.TheVariants.{NoMemory}

-- a fault of a part by its definition, unless memory ran out, is the fault of the whole by its
-- definition
pub moved_fault : {X Y Z W : Type 0} (view : X → Z) (other : Y → W) (fault : ReadFault) (reading_result : Result Z ReadFault) (whole : Result W ReadFault) → (reading_result ≡ Err fault → whole ≡ Err fault)
    → ReadReturns view (Err fault) reading_result → ReadReturns other (Err fault) whole
moved_fault view other NoMemory reading_result whole f h = tt
moved_fault view other fault reading_result whole f h = f h

-- also if `?` returns it
pub passed_fault : {X Y Z W : Type 0} (view : X → Z) (other : Y → W) (fault : ReadFault) (result : Result Y ReadFault) (reading_result : Result Z ReadFault) (whole : Result W ReadFault)
    → result ≡ Err fault → (reading_result ≡ Err fault → whole ≡ Err fault) → ReadReturns view (Err fault) reading_result → ReadReturns other result whole
passed_fault view other fault result reading_result whole is f h = subst (λ r. ReadReturns other r whole) (sym is) (moved_fault view other fault reading_result whole f h)
