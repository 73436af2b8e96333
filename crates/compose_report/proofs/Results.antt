-- A property of a value, in a result.
use Rattle.std.specs.Prelude.{Result, Ok, Err, IfOk}

-- another property of the value, if there is one
pub ok_map : {X E : Type 0} (P Q : X → Type 0) (r : Result X E) → ((x : X) → P x → Q x) → IfOk r P → IfOk r Q
ok_map P Q (Ok x) f h = f x h
ok_map P Q (Err e) f h = tt
