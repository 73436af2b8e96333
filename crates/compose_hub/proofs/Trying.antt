-- Attempts to accept a connection.
use Rattle.std.proofs.Common.{◌≡◌, ℕ, ◌+◌, ◌<◌, List, [], ◌∷◌, ◌++◌, Bool, true, false, length, get_or, take, refl, sym, ◌∙◌, ap, subst, inl, inr, arith}
use Rattle.std.proofs.lemmas.List.{take_more, take_all}
use Rattle.std.proofs.lemmas.List.Folds.{list_any-append}
use Rattle.std.specs.Prelude.{◌&&◌, ◌||◌, ◌⊎◌, Option, Some, None, nat_lt}
use Rattle.std.specs.List.{list_any}
use Rattle.std.specs.Option.{is_none}
use Rattle.compose_hub.specs.Sockets.{one_more, IsMore}
use Rattle.compose_hub.specs.Rounds.{is_waits, is_wanted}
use Rattle.compose_hub.specs.declared.client.Client.{Client}
use Rattle.compose_hub.specs.declared.client.Limits.{Limits}
use Rattle.compose_hub.specs.declared.server.Queue.{Queue}

-- there was an attempt, or not yet: then all that is known is as before, and the first slots are
-- not free
pub record NotYet (before now : Option ℕ) (was is : Queue) (had has : ℕ) (count : ℕ) (slots : List (Option Client)) : Type 0 where
  pub attempts : now ≡ before
  pub queue : is ≡ was
  pub accepted : has ≡ had
  pub none_free : list_any is_none (take count slots) ≡ false

abbrev pub Tried : Option ℕ → Option ℕ → Queue → Queue → ℕ → ℕ → ℕ → List (Option Client) → Type 0
Tried before now was queue had accepted count slots = IsMore before now ⊎ NotYet before now was queue had accepted count slots

more_still : (before now : Option ℕ) → IsMore before now → IsMore before (one_more now)
more_still None now h = ap one_more h
more_still (Some n) now h = (h.0 + 1, ap one_more h.1, (let lt = h.2 in omega arith))

more_now : (before : Option ℕ) → IsMore before (one_more before)
more_now None = refl
more_now (Some n) = (n + 1, refl, omega arith)

-- an attempt
pub tried_now : (before now after : Option ℕ) (was queue queue' : Queue) (had accepted accepted' count count' : ℕ) (slots : List (Option Client)) → after ≡ one_more now → Tried before now was queue had accepted count slots
    → Tried before after was queue' had accepted' count' slots
tried_now before now after was queue queue' had accepted accepted' count count' slots e (inl h) = inl (subst (λ (o : Option ℕ). IsMore before o) (sym e) (more_still before now h))
tried_now before now after was queue queue' had accepted accepted' count count' slots e (inr h) =
    inl (subst (λ (o : Option ℕ). IsMore before o) (sym (e ∙ ap one_more h.attempts)) (more_now before))

not_free : (a b : Bool) → a && b ≡ false → b ≡ true → a ≡ false
not_free true b h e = absurd (cc)
not_free false b h e = refl

both : (a b : Bool) → a ≡ true → b ≡ true → a && b ≡ true
both a b h e = ap (λ (x : Bool). x && b) h ∙ e

none_more : (slots : List (Option Client)) (i : ℕ) → i < length slots → list_any is_none (take i slots) ≡ false → is_none (get_or slots i None) ≡ false → list_any is_none (take (i + 1) slots) ≡ false
none_more slots i lt h e =
    ap (list_any is_none) (take_more slots i None lt) ∙ list_any-append is_none (take i slots) (get_or slots i None ∷ [])
    ∙ ap (λ (a : Bool). a || list_any is_none (get_or slots i None ∷ [])) h ∙ ap (λ (a : Bool). a || false) e

-- no attempt, since the slot is not free
pub tried_not : (limits : Limits) (before now : Option ℕ) (was queue : Queue) (had accepted i : ℕ) (slots : List (Option Client)) → is_waits was ≡ true → nat_lt had limits.connections ≡ true → i < length slots
    → (is_none (get_or slots i None) && is_wanted queue accepted limits) ≡ false → Tried before now was queue had accepted i slots → Tried before now was queue had accepted (i + 1) slots
tried_not limits before now was queue had accepted i slots waits below lt unwanted (inl h) = inl h
tried_not limits before now was queue had accepted i slots waits below lt unwanted (inr h) =
    let wanted : is_wanted queue accepted limits ≡ true = both (is_waits queue) (nat_lt accepted limits.connections) (ap is_waits h.queue ∙ waits) (ap (λ (n : ℕ). nat_lt n limits.connections) h.accepted ∙ below) in
    inr (record { attempts = h.attempts; queue = h.queue; accepted = h.accepted; none_free = none_more slots i lt h.none_free (not_free (is_none (get_or slots i None)) (is_wanted queue accepted limits) unwanted wanted) })

-- if a slot was free, there was an attempt
pub tried_all : (before now : Option ℕ) (was queue : Queue) (had accepted count : ℕ) (slots : List (Option Client)) → take count slots ≡ slots → list_any is_none slots ≡ true → Tried before now was queue had accepted count slots
    → IsMore before now
tried_all before now was queue had accepted count slots whole free (inl h) = h
tried_all before now was queue had accepted count slots whole free (inr h) = let no : true ≡ false = sym free ∙ ap (list_any is_none) (sym whole) ∙ h.none_free in absurd (cc)
