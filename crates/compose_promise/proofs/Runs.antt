-- The two ways to say that two tables agree on some keys.
use Rattle.std.proofs.Common.{◌≡◌, ℕ, List, [], ◌∷◌, not, ◌&&◌, refl, sym, ◌∙◌, ap}
use Rattle.std.specs.List.{list_all}
use Rattle.keysym_core.specs.Names.{KeysymNames}
use Rattle.compose_model.specs.Table.{Definition}
use Rattle.compose_model.specs.Step.{Step, steps_from, effect, pending_after, is_cancel, uncancelled_from}
use Rattle.compose_model.specs.Follows.{AgreeAlong, Follows}
use Rattle.compose_promise.specs.Promise.{AgreeAtEach, KeepsTyping}

-- agreement along the keys is agreement of the two runs at each key
at_each : (names : KeysymNames) (old new : List Definition) (u v w : List ℕ) → AgreeAlong names old new u v w → AgreeAtEach (steps_from names old u w) (steps_from names new v w)
at_each names old new u v [] h = tt
at_each names old new u v (k ∷ w) h = (h.0, at_each names old new (pending_after old u k) (pending_after new v k) w h.1)

along : (names : KeysymNames) (old new : List Definition) (u v w : List ℕ) → AgreeAtEach (steps_from names old u w) (steps_from names new v w) → AgreeAlong names old new u v w
along names old new u v [] h = tt
along names old new u v (k ∷ w) h = (h.0, along names old new (pending_after old u k) (pending_after new v k) w h.1)

-- no step of the run cancels
none_cancels : (names : KeysymNames) (table : List Definition) (u w : List ℕ) → list_all (λ (s : Step). not (is_cancel s.effect)) (steps_from names table u w) ≡ uncancelled_from table u w
none_cancels names table u [] = refl
none_cancels names table u (k ∷ w) = ap (λ b. not (is_cancel (effect table u k)) && b) (none_cancels names table (pending_after table u k) w)

pub keeps : (names : KeysymNames) (fresh : List ℕ) (old new : List Definition) → Follows names fresh old new → KeepsTyping names fresh old new
keeps names fresh old new f keys a h = at_each names old new [] [] keys (f keys a (sym (none_cancels names old [] keys) ∙ h))

pub follows : (names : KeysymNames) (fresh : List ℕ) (old new : List Definition) → KeepsTyping names fresh old new → Follows names fresh old new
follows names fresh old new f keys a h = along names old new [] [] keys (f keys a (none_cancels names old [] keys ∙ h))
