-- A round: the slots, one after another.
use Rattle.std.proofs.Common.{◌≡◌, ℕ, ◌+◌, ◌<◌, List, [], ◌∷◌, ◌++◌, length, get_or, set, take, refl, sym, ◌∙◌, subst}
use Rattle.std.proofs.lemmas.List.{take_more, take_more_set}
use Rattle.std.specs.Prelude.{◌≤◌, Option, Some, None, Result, Ok}
use Rattle.compose_hub.specs.Ends.{ReportedEnd, ReportsEnd, reported_end}
use Rattle.compose_hub.specs.Serving.{Now}
use Rattle.compose_hub.specs.Round.{EachSlot}
use Rattle.compose_hub.specs.declared.client.Client.{Client}
use Rattle.compose_hub.specs.declared.ends.ConnectionEnd.{ConnectionEnd}

-- an end that was reported
pub reported_then : (X Y : Type 0) (x : X) (reported reported' : Option (List ReportedEnd)) (ended : Option (ℕ × ConnectionEnd)) → ReportsEnd {X = X} {Y = Y} reported reported' ended (Ok x) → reported' ≡ reported_end reported ended
reported_then X Y x reported reported' None h = h
reported_then X Y x reported reported' (Some e) h = h

module _ (step : Now → Now → Option Client → Option Client → Type 0) where
  -- one more slot
  each_more : (old mid new : Now) (slots slots' : List (Option Client)) (before now : Option Client) → EachSlot step old mid slots slots' → step mid new before now
      → EachSlot step old new (slots ++ before ∷ []) (slots' ++ now ∷ [])
  each_more old mid new [] [] before now h s = (new, subst (λ (m : Now). step m new before now) h s, refl)
  each_more old mid new [] (y ∷ slots') before now h s = absurd h
  each_more old mid new (x ∷ slots) [] before now h s = absurd h
  each_more old mid new (x ∷ slots) (y ∷ slots') before now h s = (h.0, h.1, each_more h.0 mid new slots slots' before now h.2 s)

  -- the slots up to this one, after its step
  pub each_step : (old mid new : Now) (slots items : List (Option Client)) (i : ℕ) (before now : Option Client) → i < length slots → i < length items → get_or slots i None ≡ before
      → EachSlot step old mid (take i slots) (take i items) → step mid new before now → EachSlot step old new (take (i + 1) slots) (take (i + 1) (set items i now))
  each_step old mid new slots items i before now lt below at h s =
      subst (λ (l : List (Option Client)). EachSlot step old new l (take (i + 1) (set items i now))) (sym (take_more slots i None lt))
      (subst (λ (l : List (Option Client)). EachSlot step old new (take i slots ++ get_or slots i None ∷ []) l) (sym (take_more_set items i now below))
      (each_more old mid new (take i slots) (take i items) (get_or slots i None) now h (subst (λ (b : Option Client). step mid new b now) (sym at) s)))
