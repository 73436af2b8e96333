-- No session has two owners.
use Rattle.std.proofs.Common.{◌≡◌, ℕ, List, [], ◌∷◌, ◌++◌, Bool, true, false, cond, refl, sym, ◌∙◌, ap, subst, append-nil, eq-eqb, eqb-true, inl, inr}
use Rattle.std.specs.Prelude.{◌==◌, not, filter, Option, Some, None}
use Rattle.std.specs.List.{AllByRecursion, IsDistinct}
use Rattle.std.specs.Option.{option_or}
use Rattle.std.proofs.lemmas.Bool.{cases_Bool, eqb-false}
use Rattle.std.proofs.lemmas.List.Elements.{filter-append}
use Rattle.compose_wire.specs.declared.request.Body.{Body as ProgramBody}
use Rattle.compose_wire.specs.declared.request.Body.TheVariants.{Open, Key, Reset, Close, Load, LoadLongest, Ask}
use Rattle.compose_wire.specs.declared.reply.ReplyBody.{ReplyBody as ProgramAnswer}
use Rattle.compose_wire.specs.declared.reply.ReplyBody.TheVariants.{Opened, Fed, WasReset, Closed, Loaded, State, Refused}
use Rattle.compose_many.specs.Owners.{EachOnce, without, of_others, with_owner, owners_noted, last_own}
use Rattle.compose_many.specs.declared.owners.Owner.{Owner}

-- numbers that differ do so in either order
flip : (a b : ℕ) → (a == b) ≡ false → (b == a) ≡ false
flip a b e = elim (cases_Bool (b == a)) [ inl t ↦ absurd (eqb-false a b e (sym (eqb-true b a t))) | inr f ↦ f ]

-- none of these owners has the session n
abbrev pub Lacks : ℕ → List Owner → Type 0
Lacks n owners = AllByRecursion (λ (o : Owner). (n == o.session) ≡ false) owners

-- ---- which owners have a session

module _ (n : ℕ) where
  without_lacking : (owners : List Owner) → Lacks n owners → without n owners ≡ owners
  without_lacking [] l = refl
  without_lacking (o ∷ owners) l = by (o.session == n) (flip n o.session l.0) (without_lacking owners l.1)
    where
      by : (b : Bool) → b ≡ false → without n owners ≡ owners → cond (not b) (o ∷ without n owners) (without n owners) ≡ o ∷ owners
      by true e r = absurd (cc)
      by false e r = ap (λ (os : List Owner). o ∷ os) r

  lacks_filter : (p : Owner → Bool) (owners : List Owner) → Lacks n owners → Lacks n (filter p owners)
  lacks_filter p [] l = tt
  lacks_filter p (o ∷ owners) l = by (p o) (lacks_filter p owners l.1)
    where
      by : (b : Bool) → Lacks n (filter p owners) → Lacks n (cond b (o ∷ filter p owners) (filter p owners))
      by true r = (l.0, r)
      by false r = r

  lacks_without : (owners : List Owner) → Lacks n (without n owners)
  lacks_without [] = tt
  lacks_without (o ∷ owners) = by (o.session == n) refl (lacks_without owners)
    where
      by : (b : Bool) → (o.session == n) ≡ b → Lacks n (without n owners) → Lacks n (cond (not b) (o ∷ without n owners) (without n owners))
      by true e r = r
      by false e r = (flip o.session n e, r)

  lacks_more : (owners : List Owner) (o : Owner) → Lacks n owners → (n == o.session) ≡ false → Lacks n (owners ++ o ∷ [])
  lacks_more [] o l e = (e, tt)
  lacks_more (p ∷ owners) o l e = (l.0, lacks_more owners o l.1 e)

  lacks_before : (owners : List Owner) (o : Owner) → Lacks n (owners ++ o ∷ []) → Lacks n owners × ((n == o.session) ≡ false)
  lacks_before [] o l = (tt, l.0)
  lacks_before (p ∷ owners) o l = let r = lacks_before owners o l.1 in ((l.0, r.0), r.1)

  -- a connection's last session is that of one of the owners
  other_last : (c m : ℕ) (owners : List Owner) → Lacks n owners → last_own c owners ≡ Some m → (n == m) ≡ false
  other_last c m [] l h = absurd (cc)
  other_last c m (o ∷ owners) l h = by (last_own c owners) (other_last c m owners l.1) (o.connection == c) h
    where
      by : (later : Option ℕ) → (later ≡ Some m → (n == m) ≡ false) → (b : Bool) → option_or later (cond b (Some o.session) None) ≡ Some m → (n == m) ≡ false
      by (Some k) f b e = f e
      by None f true e = let same : o.session ≡ m = cc in subst (λ (k : ℕ). (n == k) ≡ false) same l.0
      by None f false e = absurd (cc)

-- ---- lists that have each session once

pub once_none : EachOnce []
unfolding IsDistinct
once_none = tt

pub once_filter : (p : Owner → Bool) (owners : List Owner) → EachOnce owners → EachOnce (filter p owners)
unfolding IsDistinct
once_filter p [] d = tt
once_filter p (o ∷ owners) d = by (p o) (once_filter p owners d.1)
  where
    by : (b : Bool) → EachOnce (filter p owners) → EachOnce (cond b (o ∷ filter p owners) (filter p owners))
    by true r = (lacks_filter o.session p owners d.0, r)
    by false r = r

once_more : (owners : List Owner) (o : Owner) → EachOnce owners → Lacks o.session owners → EachOnce (owners ++ o ∷ [])
unfolding IsDistinct
once_more [] o d l = (tt, tt)
once_more (p ∷ owners) o d l = (lacks_more p.session owners o d.0 (flip o.session p.session l.0), once_more owners o d.1 l.1)

-- the owners before the last one, which has a session that none of them has
pub once_before : (owners : List Owner) (o : Owner) → EachOnce (owners ++ o ∷ []) → EachOnce owners × Lacks o.session owners
unfolding IsDistinct
once_before [] o d = (tt, tt)
once_before (p ∷ owners) o d =
    let r = once_before owners o d.1 in
    let l = lacks_before p.session owners o d.0 in
    ((l.0, r.0), (flip p.session o.session l.1, r.1))

once_with : (n c : ℕ) (owners : List Owner) → EachOnce owners → EachOnce (with_owner n c owners)
once_with n c owners d =
    once_more (without n owners) (record { session = n; connection = c }) (once_filter (λ (o : Owner). not (o.session == n)) owners d) (lacks_without n owners)

once_opened : (c n : ℕ) (owners : List Owner) (a : ProgramAnswer) → EachOnce owners → EachOnce (owners_noted c n owners Open a)
once_opened c n owners Opened d = once_with n c owners d
once_opened c n owners (Fed s a t) d = d
once_opened c n owners WasReset d = d
once_opened c n owners Closed d = d
once_opened c n owners (Loaded m) d = d
once_opened c n owners (State s p) d = d
once_opened c n owners (Refused m) d = d

-- the owners after an answer have each session once, if those before it had
pub once_noted : (c n : ℕ) (owners : List Owner) (b : ProgramBody) (a : ProgramAnswer) → EachOnce owners → EachOnce (owners_noted c n owners b a)
once_noted c n owners Open a d = once_opened c n owners a d
once_noted c n owners (Key k) a d = d
once_noted c n owners Reset a d = d
once_noted c n owners Close a d = once_filter (λ (o : Owner). not (o.session == n)) owners d
once_noted c n owners (Load p) a d = d
once_noted c n owners (LoadLongest p) a d = d
once_noted c n owners Ask a d = d

-- ---- what is left once a session is closed

-- without the session of the last owner, those before it are left
pub without_last : (owners : List Owner) (o : Owner) → EachOnce (owners ++ o ∷ []) → without o.session (owners ++ o ∷ []) ≡ owners
without_last owners o d =
    filter-append (λ (p : Owner). not (p.session == o.session)) owners (o ∷ []) ∙ ap (λ (b : Bool). without o.session owners ++ cond (not b) (o ∷ []) []) (eq-eqb o.session o.session refl)
    ∙ append-nil (without o.session owners) ∙ without_lacking o.session owners (once_before owners o d).1

-- a session that is closed was the connection's: the owners of the others stay
pub others_without : (c n : ℕ) (owners : List Owner) → EachOnce owners → last_own c owners ≡ Some n → of_others c (without n owners) ≡ of_others c owners
unfolding IsDistinct
others_without c n [] d h = absurd (cc)
others_without c n (o ∷ owners) d h = by (last_own c owners) (other_last o.session c n owners d.0) (others_without c n owners d.1) (o.connection == c) refl h
  where
    kept : (b : Bool) → b ≡ false → of_others c (without n owners) ≡ of_others c owners → of_others c (cond (not b) (o ∷ without n owners) (without n owners)) ≡ of_others c (o ∷ owners)
    kept true e r = absurd (cc)
    kept false e r = ap (λ (os : List Owner). cond (not (o.connection == c)) (o ∷ os) os) r

    gone : (b : Bool) → b ≡ true → (o.connection == c) ≡ true → without n owners ≡ owners → of_others c (cond (not b) (o ∷ without n owners) (without n owners)) ≡ of_others c (o ∷ owners)
    gone true e own r = ap (of_others c) r ∙ sym (ap (λ (b : Bool). cond (not b) (o ∷ of_others c owners) (of_others c owners)) own)
    gone false e own r = absurd (cc)

    by : (later : Option ℕ) → (later ≡ Some n → (o.session == n) ≡ false) → (later ≡ Some n → of_others c (without n owners) ≡ of_others c owners) → (b : Bool) → (o.connection == c) ≡ b
        → option_or later (cond b (Some o.session) None) ≡ Some n → of_others c (cond (not (o.session == n)) (o ∷ without n owners) (without n owners)) ≡ of_others c (o ∷ owners)
    by (Some m) other f b own e = kept (o.session == n) (other e) (f e)
    by None other f true own e =
        let same : o.session ≡ n = cc in
        gone (o.session == n) (eq-eqb o.session n same) own (without_lacking n owners (subst (λ (m : ℕ). Lacks m owners) same d.0))
    by None other f false own e = absurd (cc)

-- a connection that owns none of them is that of none
pub others_all : (c : ℕ) (owners : List Owner) → last_own c owners ≡ None → of_others c owners ≡ owners
others_all c [] h = refl
others_all c (o ∷ owners) h = by (last_own c owners) (others_all c owners) (o.connection == c) h
  where
    by : (later : Option ℕ) → (later ≡ None → of_others c owners ≡ owners) → (b : Bool) → option_or later (cond b (Some o.session) None) ≡ None
        → cond (not b) (o ∷ of_others c owners) (of_others c owners) ≡ o ∷ owners
    by (Some m) f b e = absurd (cc)
    by None f true e = absurd (cc)
    by None f false e = ap (λ (os : List Owner). o ∷ os) (f refl)
