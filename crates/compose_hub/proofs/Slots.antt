-- The content of the slots.
use Rattle.std.proofs.Common.{◌≡◌, ◌≢◌, ℕ, zero, suc, ◌<◌, List, [], ◌∷◌, ◌++◌, Bool, true, false, length, get_or, set, get_or-set_same, get_or-set_other, refl, sym, ◌∙◌, subst, inl, inr, eqb-true}
use Rattle.std.proofs.lemmas.Bool.{eqb-false}
use Rattle.std.specs.Prelude.{◌==◌, ◌&&◌, ◌⊎◌, Option, Some, None}
use Rattle.std.specs.List.{list_all}
use Rattle.std.specs.Option.{is_none}
use Rattle.compose_hub.specs.Serving.{IsStill, SlotIsStill, AllAreStill, IsIn, HasNone}
use Rattle.compose_hub.specs.declared.client.Client.{Client}

-- ---- what is in a slot once one is written

abbrev pub IsAt : List (Option Client) → ℕ → Option Client → ℕ → Client → Type 0
IsAt slots key x j c = ((j ≡ key) × (x ≡ Some c)) ⊎ ((j ≢ key) × IsIn slots j c)

module _ (slots : List (Option Client)) (key : ℕ) (x : Option Client) (lt : key < length slots) (j : ℕ) (c : Client) where
  by_same : (b : Bool) → j == key ≡ b → IsIn (set slots key x) j c → IsAt slots key x j c
  by_same true e h =
      let same = eqb-true j key e in
      inl (same, sym (get_or-set_same slots key x None lt) ∙ subst (λ (n : ℕ). get_or (set slots key x) n None ≡ Some c) same h)
  by_same false e h = inr (eqb-false j key e, sym (get_or-set_other slots key j x None (eqb-false j key e)) ∙ h)

  -- a client in a slot is the one that was written there, or one that was there before
  pub at_slot : IsIn (set slots key x) j c → IsAt slots key x j c
  at_slot h = by_same (j == key) refl h

  -- and each of these is in its slot
  pub in_slot : IsAt slots key x j c → IsIn (set slots key x) j c
  in_slot (inl p) = subst (λ (n : ℕ). get_or (set slots key x) n None ≡ Some c) (sym p.0) (get_or-set_same slots key x None lt ∙ p.1)
  in_slot (inr p) = get_or-set_other slots key j x None p.0 ∙ p.1

-- whether it is that slot
pub same_or : (j key : ℕ) (b : Bool) → j == key ≡ b → (j ≡ key) ⊎ (j ≢ key)
same_or j key true e = inl (eqb-true j key e)
same_or j key false e = inr (eqb-false j key e)

-- ---- clients that are still

-- a client that is in an unchanged slot was there before
pub still_back : (before now : Option Client) (d : Client) → SlotIsStill before now → now ≡ Some d → (c : Client) × (before ≡ Some c) × IsStill c d
still_back None now d h e = let no : None ≡ Some d = sym h ∙ e in absurd (cc)
still_back (Some c) now d h e = let same : Some h.0 ≡ Some d = sym h.1 ∙ e in let is : h.0 ≡ d = cc in (c, refl, subst (λ (t : Client). IsStill c t) is h.2)

-- and one that was there before is there
pub still_forth : (before now : Option Client) (c : Client) → SlotIsStill before now → before ≡ Some c → (d : Client) × (now ≡ Some d) × IsStill c d
still_forth None now c h e = absurd (cc)
still_forth (Some b) now c h e = let is : b ≡ c = cc in (h.0, h.1, subst (λ (t : Client). IsStill t h.0) is h.2)

slot_still : (slot : Option Client) → SlotIsStill slot slot
slot_still None = refl
slot_still (Some c) = (c, refl, (refl, refl))

pub still_at_first : (slots : List (Option Client)) → AllAreStill slots slots
still_at_first slots key = slot_still (get_or slots key None)

still_then : (a b c : Option Client) → SlotIsStill a b → SlotIsStill b c → SlotIsStill a c
still_then None b c h k = subst (λ (s : Option Client). SlotIsStill s c) h k
still_then (Some x) b c h k =
    let next : SlotIsStill (Some h.0) c = subst (λ (s : Option Client). SlotIsStill s c) h.1 k in
    (next.0, next.1, (next.2.0 ∙ h.2.0, next.2.1 ∙ h.2.1))

module _ (slots now : List (Option Client)) (key : ℕ) (x : Option Client) (lt : key < length now) (all : AllAreStill slots now) (one : SlotIsStill (get_or now key None) x) where
  by_slot : (j : ℕ) (b : Bool) → j == key ≡ b → SlotIsStill (get_or slots j None) (get_or (set now key x) j None)
  by_slot j true e =
      subst (λ (n : ℕ). SlotIsStill (get_or slots n None) (get_or (set now key x) n None)) (sym (eqb-true j key e))
      (subst (λ (s : Option Client). SlotIsStill (get_or slots key None) s) (sym (get_or-set_same now key x None lt)) (still_then (get_or slots key None) (get_or now key None) x (all key) one))
  by_slot j false e = subst (λ (s : Option Client). SlotIsStill (get_or slots j None) s) (sym (get_or-set_other now key j x None (eqb-false j key e))) (all j)

  pub still_more : AllAreStill slots (set now key x)
  still_more j = by_slot j (j == key) refl

pub all_still_then : (a b c : List (Option Client)) → AllAreStill a b → AllAreStill b c → AllAreStill a c
all_still_then a b c h k key = still_then (get_or a key None) (get_or b key None) (get_or c key None) (h key) (k key)

-- ---- empty slots

pub none_more : (slots : List (Option Client)) → HasNone slots → HasNone (slots ++ None ∷ [])
none_more [] none zero = refl
none_more [] none (suc key) = refl
none_more (x ∷ slots) none zero = none zero
none_more (x ∷ slots) none (suc key) = none_more slots (λ j. none (suc j)) key

is_empty : (x : Option Client) (rest : Bool) → (is_none x && rest) ≡ true → (x ≡ None) × (rest ≡ true)
is_empty None true h = (refl, refl)
is_empty None false h = absurd (cc)
is_empty (Some c) rest h = absurd (cc)

-- if all slots test as free, there is no client
pub all_free : (slots : List (Option Client)) → list_all is_none slots ≡ true → HasNone slots
all_free [] h zero = refl
all_free [] h (suc key) = refl
all_free (x ∷ slots) h zero = (is_empty x (list_all is_none slots) h).0
all_free (x ∷ slots) h (suc key) = all_free slots (is_empty x (list_all is_none slots) h).1 key
