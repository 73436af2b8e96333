-- A fault that is returned.
use Rattle.std.proofs.Common.{◌≡◌, sym, subst, inl, inr}
use Rattle.std.specs.Prelude.{Result, Ok, Err, IfOk, IfErr, IsErrAnd}
use Rattle.compose_input.specs.declared.fault.Fault.{Fault}
use Rattle.compose_input.specs.declared.fault.Fault.TheVariants.{NoMemory}
use Rattle.compose_given.specs.Faults.{OrMemory}

-- a property of the fault, as one of the result
pub fails : {X : Type 0} (P : Fault → Type 0) (r : Result X Fault) (fault : Fault) → r ≡ Err fault → P fault → IfErr r P
fails P r fault is p = subst (λ r. IfErr r P) (sym is) p

-- another property of the fault, if there is one
pub err_map : {X E : Type 0} (P Q : E → Type 0) (r : Result X E) → ((e : E) → P e → Q e) → IfErr r P → IfErr r Q
err_map P Q (Ok x) f h = tt
err_map P Q (Err e) f h = f e h

-- another property of the value, if there is one
pub ok_map : {X E : Type 0} (P Q : X → Type 0) (r : Result X E) → ((x : X) → P x → Q x) → IfOk r P → IfOk r Q
ok_map P Q (Ok x) f h = f x h
ok_map P Q (Err e) f h = tt

-- the fault that `?` passes on
pub handed : {X : Type 0} (P : Fault → Type 0) (r : Result X Fault) (fault : Fault) → IsErrAnd r (λ e. e ≡ fault) → P fault → IfErr r P
handed P (Ok x) fault h p = tt
handed P (Err e) fault h p = subst P (sym h) p

-- memory ran out
pub memory : {X : Type 0} (P : Fault → Type 0) (r : Result X Fault) → IsErrAnd r (λ fault. fault ≡ NoMemory) → P NoMemory → IfErr r P
memory P (Ok x) h p = tt
memory P (Err fault) h p = subst P (sym h) p

-- memory ran out, or another property of the fault
pub or_map : (P Q : Fault → Type 0) (fault : Fault) → (P fault → Q fault) → OrMemory P fault → OrMemory Q fault
or_map P Q fault f (inl memory) = inl memory
or_map P Q fault f (inr p) = inr (f p)
