-- Results of steps in order.
use Rattle.std.proofs.Common.{◌≡◌, refl}
use Rattle.std.specs.Prelude.{Result, Ok, Err}
use Rattle.compose_text.specs.Results.{◌>>=◌}
use Rattle.compose_migration.specs.Migration.{or_because}

pub bind_ok : {A B E : Type 0} (r : Result A E) (f : A → Result B E) (b : B) → (r >>= f) ≡ Ok b → (a : A) × (r ≡ Ok a) × (f a ≡ Ok b)
bind_ok (Ok a) f b h = (a, refl, h)
bind_ok (Err e) f b h = absurd (cc)

pub because_ok : {A E F : Type 0} (why : E → F) (r : Result A E) (a : A) → or_because why r ≡ Ok a → r ≡ Ok a
because_ok why (Ok x) a h = cc
because_ok why (Err e) a h = absurd (cc)

pub ok_ok : {A E : Type 0} (a b : A) → (let r : Result A E = Ok a in r) ≡ Ok b → a ≡ b
ok_ok a b h = cc

pub err_ok : {A E : Type 0} (e : E) (a : A) → (let r : Result A E = Err e in r) ≡ Ok a → ⊥
err_ok e a h = cc

pub ok_same : {A E : Type 0} (a b : A) (r : Result A E) → r ≡ Ok a → r ≡ Ok b → a ≡ b
ok_same a b r h k = cc
