-- The loop: what is accepted before a wait, and one more round.
use Rattle.std.proofs.Common.{◌≡◌, ◌≢◌, ◌∙◌, ℕ, true, false, zero, suc, ◌+◌, ◌<◌, List, [], ◌∷◌, ◌++◌, Option, length, get_or, set, replicate, max, refl, sym, ap, subst, inl, inr, append_assoc, append-nil, get_or-set_same, get_or-set_other, arith}
use Rattle.std.proofs.lemmas.List.{get_or-replicate, length-replicate, get_or_default}
use Rattle.std.specs.Prelude.{◌==◌, ◌⊎◌, Some, None, Result, Ok, Err, IsErr}
use Rattle.compose_machine.specs.Machine.{Reading}
use Rattle.compose_many.specs.Numbered.{StreamState}
use Rattle.compose_hub.specs.Sockets.{BytesStay}
use Rattle.compose_hub.specs.Waits.{Wait, waits_more}
use Rattle.compose_hub.specs.Turns.{owned}
use Rattle.compose_hub.specs.Serving.{World, world, at_now, HasNone, AcceptsAs, WaitsSince}
use Rattle.compose_hub.specs.Loop.{Standing, IsFirst, KeepsOrAccepts, AllKeepOrAccept, Accepts, TakesRound, TakesRounds, EndsAt}
use Rattle.compose_hub.specs.declared.client.Client.{Client}
use Rattle.compose_hub.specs.declared.client.Limits.{Limits}
use Rattle.compose_hub.specs.declared.client.WaitsFor.TheVariants.{Turn as ForTurn}
use Rattle.compose_hub.proofs.Slots.{same_or}

-- ---- what is accepted

pub bytes_both : (first mid last : ℕ → StreamState) → BytesStay first mid → BytesStay mid last → BytesStay first last
bytes_both first mid last a b n = ((b n).0 ∙ (a n).0, (b n).1 ∙ (a n).1)

-- a free slot after an attempt to accept a connection into it
pub kept_or_new : (time accepted accepted' : ℕ) (before now : Option Client) → before ≡ None → AcceptsAs accepted accepted' before now → (accepted' ≢ accepted → WaitsSince ForTurn time now)
    → KeepsOrAccepts time before now
kept_or_new time accepted accepted' before now free (inl p) since = inl p.1
kept_or_new time accepted accepted' before now free (inr p) since =
    let waits = since (λ same. let more = p.0 in absurd (omega (arith, same, more))) p.1.0 p.1.1 in
    inr (free, (p.1.0, p.1.1, p.1.3, waits.0, waits.1))

-- one slot more
pub slot_accepts : (time : ℕ) (before items : List (Option Client)) (key : ℕ) (x : Option Client) → key < length items → AllKeepOrAccept time before items
    → get_or items key None ≡ get_or before key None → {slot : Option Client} → KeepsOrAccepts time slot x → get_or items key None ≡ slot → AllKeepOrAccept time before (set items key x)
slot_accepts time before items key x lt all ahead {slot} here is j = elim (same_or j key (j == key) refl) [
  | inl e ↦ subst (λ (k : ℕ). KeepsOrAccepts time (get_or before k None) (get_or (set items key x) k None)) (sym e)
      (subst (λ (now : Option Client). KeepsOrAccepts time (get_or before key None) now) (sym (get_or-set_same items key x None lt))
      (subst (λ (b : Option Client). KeepsOrAccepts time b x) (sym is ∙ ahead) here))
  | inr ne ↦ subst (λ (now : Option Client). KeepsOrAccepts time (get_or before j None) now) (sym (get_or-set_other items key j x None ne)) (all j)
]

-- ---- rounds

waits_both : (waits : Option (List Wait)) (a b : List Wait) → waits_more (waits_more waits a) b ≡ waits_more waits (a ++ b)
waits_both None a b = refl
waits_both (Some ws) a b = ap (λ (l : List Wait). Some l) (append_assoc ws a b)

pub waits_none : (waits : Option (List Wait)) → waits ≡ waits_more waits []
waits_none None = refl
waits_none (Some ws) = ap (λ (l : List Wait). Some l) (sym (append-nil ws))

round_more : (limits : Limits) (reading : Reading) (waits : List Wait) (wait : Wait) (first mid last : Standing) → TakesRounds limits reading waits first mid → TakesRound limits reading wait mid last
    → TakesRounds limits reading (waits ++ wait ∷ []) first last
round_more limits reading [] wait first mid last h r = (last, subst (λ (m : Standing). TakesRound limits reading wait m last) h r, refl)
round_more limits reading (w ∷ waits) wait first mid last h r = (h.0, h.1, round_more limits reading waits wait h.0 mid last h.2 r)

-- the loop has taken a round for each wait so far, from the start on
pub record Rounds (limits : Limits) (reading : Reading) (waits waits' : Option (List Wait)) (first : World) (last : Standing) : Type 0 where
  pub taken : List Wait
  pub waited : waits' ≡ waits_more waits taken
  pub start : Standing
  pub begins : IsFirst limits first start
  pub rounds : TakesRounds limits reading taken start last

pub no_rounds : (limits : Limits) (reading : Reading) (waits : Option (List Wait)) (first : World) (start : Standing) → IsFirst limits first start → Rounds limits reading waits waits first start
no_rounds limits reading waits first start h = record { taken = []; waited = waits_none waits; start = start; begins = h; rounds = refl }

pub more_rounds : (limits : Limits) (reading : Reading) (waits waits' waits'' : Option (List Wait)) (first : World) (mid last : Standing) (wait : Wait) → Rounds limits reading waits waits' first mid
    → waits'' ≡ waits_more waits' (wait ∷ []) → TakesRound limits reading wait mid last → Rounds limits reading waits waits'' first last
more_rounds limits reading waits waits' waits'' first mid last wait h one r = record {
  taken = h.taken ++ wait ∷ [];
  waited = one ∙ ap (λ (w : Option (List Wait)). waits_more w (wait ∷ [])) h.waited ∙ waits_both waits h.taken (wait ∷ []);
  start = h.start;
  begins = h.begins;
  rounds = round_more limits reading h.taken wait h.start mid last h.rounds r;
}

-- the waits of the rounds that were taken, and one more
pub waits_then : (waits waits' waits'' : Option (List Wait)) (taken begun : List Wait) → waits' ≡ waits_more waits taken → waits'' ≡ waits_more waits' begun
    → waits'' ≡ waits_more waits (taken ++ begun)
waits_then waits waits' waits'' taken begun h one = one ∙ ap (λ (w : Option (List Wait)). waits_more w begun) h ∙ waits_both waits taken begun

pub waits_only : (waits waits' : Option (List Wait)) (taken : List Wait) → waits' ≡ waits_more waits taken → waits' ≡ waits_more waits (taken ++ [])
waits_only waits waits' taken h = h ∙ ap (λ (l : List Wait). waits_more waits l) (sym (append-nil taken))

-- nothing is accepted
pub accepts_none : (last : Standing) → Accepts last last
accepts_none last = record { state = refl; bytes = λ n. (refl, refl); reported = refl; time = refl; slots = λ key. inl refl }

-- ---- the start

abbrev pub begin : Limits → World → Standing
begin limits first = record { now = at_now (owned first.service []) first.streams first.reported; time = 0; slots = replicate (max limits.at_once 1) None }

abbrev free : Option Client
free = None

none_in : (n key : ℕ) → get_or (replicate n free) key free ≡ free
none_in zero key = refl
none_in (suc n) zero = refl
none_in (suc n) (suc key) = none_in n key

pub begins : (limits : Limits) (first : World) → IsFirst limits first (begin limits first)
begins limits first = record { nothing = refl; time = refl; free = none_in (max limits.at_once 1); enough = length-replicate (max limits.at_once 1) free }

-- ---- the end

-- a round that was broken off ends in an error
pub broken_off : {X E : Type 0} (wait : Wait) (result : Result X E) (last now : World) → IsErr result → EndsAt (wait ∷ []) result last now
broken_off wait (Ok x) last now h = let no : false ≡ true = h in absurd (cc)
broken_off wait (Err e) last now h = tt
