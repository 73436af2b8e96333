-- Turns of a connection, one after another.
use Rattle.std.proofs.Common.{◌≡◌, ◌≢◌, ℕ, ◌+◌, ◌*◌, ◌<◌, ◌≤◌, List, [], ◌∷◌, ◌++◌, length, max, refl, sym, ◌∙◌, ap, subst, length-append, append-nil, zero-add, inl, inr, arith}
use Rattle.std.specs.Prelude.{Option}
use Rattle.std.proofs.KnownBytes.{Consumes-nil, Appends-nil}
use Rattle.std.specs.Io.KnownBytes.{Consumes, Appends}
use Rattle.compose_machine.specs.Machine.{ServiceState, Reading}
use Rattle.compose_many.specs.Connection.{ConnectionState, Event, piece_of, closed_of, received, exchanges, closings, loads, max_piece}
use Rattle.compose_machine.specs.Laws.{Exchange}
use Rattle.compose_many.specs.Owners.{owners_by}
use Rattle.compose_many.specs.declared.owners.Owner.{Owner}
use Rattle.compose_many.proofs.Owning.{owners_both}
use Rattle.compose_many.specs.Numbered.{StreamState}
use Rattle.compose_many.specs.declared.turn.Turn.{Turn}
use Rattle.compose_many.specs.declared.turn.Turn.TheVariants.{GoesOn, Loaded, Waits, NeedsRoom, Ends}
use Rattle.compose_many.proofs.Happening.{flat-both, loads-both}
use Rattle.compose_many.proofs.Turning.{turn_then}
use Rattle.compose_many.specs.Connection.{AllHappen}
use Rattle.compose_many.specs.Turns.{Moves}
use Rattle.compose_hub.specs.Slots.{KeepsShare}
use Rattle.compose_hub.specs.declared.client.Client.{Client}
use Rattle.compose_hub.specs.Sockets.{KeepsBytes}
use Rattle.compose_hub.specs.Turns.{OwnedService, AreTurns, TurnsAs, WasHad}

none_after : (es fs : List Event) → es ++ fs ≡ [] → fs ≡ []
none_after [] fs none = none
none_after (e ∷ es) fs none = absurd (cc)

-- this number of turns, after each of which the connection goes on, and in which no load was
-- answered
pub record WentOn (turns unsent : ℕ) (reading : Reading) (old new : OwnedService) (number : ℕ) (streams streams' : ℕ → StreamState) (before now : ConnectionState) : Type 0 where
  pub events : List Event
  pub are : AreTurns unsent reading old.service new.service number streams streams' before now events
  pub few : length (received events) ≤ turns * max_piece
  pub no_load : loads events ≡ 0
  pub some : 0 < turns → events ≢ []
  pub none_closed : closings events ≡ []
  pub owners : new.owners ≡ owners_by number old.owners (exchanges events)

-- a stream is closed, while nothing happens on its connection
pub closed : (unsent : ℕ) (reading : Reading) (old : ServiceState) (number : ℕ) (streams streams' : ℕ → StreamState) (state : ConnectionState) → KeepsBytes number streams streams'
    → AreTurns unsent reading old old number streams streams' state state []
closed unsent reading old number streams streams' state h = record {
  turn = record {
    happen = refl;
    run = refl;
    read = subst (λ (l : Option (List ℕ)). Consumes (streams number).left l []) (sym h.left) (Consumes-nil (streams number).left);
    wrote = subst (λ (l : Option (List ℕ)). Appends (streams number).written l []) (sym h.written) (Appends-nil (streams number).written);
  };
  others = h.others;
}

pub no_turn : (unsent : ℕ) (reading : Reading) (old : OwnedService) (number : ℕ) (streams : ℕ → StreamState) (before : ConnectionState) → WentOn 0 unsent reading old old number streams streams before before
no_turn unsent reading old number streams before = record {
  events = [];
  are = closed unsent reading old.service number streams streams before (record { left = refl; written = refl; others = λ c ne. refl });
  few = omega arith;
  no_load = refl;
  some = λ lt. absurd (omega arith);
  none_closed = refl;
  owners = refl;
}

-- turns, and then further ones, are turns
pub are_both : (unsent : ℕ) (reading : Reading) (old mid new : ServiceState) (number : ℕ) (streams streams' streams'' : ℕ → StreamState) (before between after : ConnectionState) (es fs : List Event)
    → AreTurns unsent reading old mid number streams streams' before between es → AreTurns unsent reading mid new number streams' streams'' between after fs
    → AreTurns unsent reading old new number streams streams'' before after (es ++ fs)
are_both unsent reading old mid new number streams streams' streams'' before between after es fs x y = record {
  turn =
      turn_then (max unsent 1) reading old mid new before between after (streams number).left (streams' number).left (streams'' number).left (streams number).written (streams' number).written
      (streams'' number).written es fs x.turn y.turn;
  others = λ c ne. y.others c ne ∙ x.others c ne;
}

module _ (turns unsent : ℕ) (reading : Reading) (old mid new : OwnedService) (number : ℕ) (streams streams' streams'' : ℕ → StreamState) (before between now : ConnectionState)
    (so_far : WentOn turns unsent reading old mid number streams streams' before between) where
  few_both : (fs : List Event) → length (received fs) ≤ 1 * max_piece → length (received (so_far.events ++ fs)) ≤ (turns + 1) * max_piece
  few_both fs h =
      let both : length (received (so_far.events ++ fs)) ≡ length (received so_far.events) + length (received fs) = ap length (flat-both piece_of so_far.events fs) ∙ length-append (received so_far.events) (received fs) in
      let few = so_far.few in
      omega arith

  no_load_both : (fs : List Event) → loads (so_far.events ++ fs) ≡ loads fs
  no_load_both fs = loads-both so_far.events fs ∙ ap (λ n. n + loads fs) so_far.no_load ∙ zero-add (loads fs)

  some_both : (turn : Turn) (fs : List Event) (after : ConnectionState) (stream : StreamState) → WasHad turn fs after stream → WasHad turn (so_far.events ++ fs) after stream
  some_both GoesOn fs after stream h = λ none. h (none_after so_far.events fs none)
  some_both Loaded fs after stream h = λ none. h (none_after so_far.events fs none)
  some_both Waits fs after stream h = h
  some_both NeedsRoom fs after stream h = h
  some_both (Ends end) fs after stream h = h

  none_both : (fs : List Event) → closings fs ≡ [] → closings (so_far.events ++ fs) ≡ []
  none_both fs none = flat-both closed_of so_far.events fs ∙ ap (λ (h : List Exchange). h ++ closings fs) so_far.none_closed ∙ none

  owners_then : (fs : List Event) → new.owners ≡ owners_by number mid.owners (exchanges fs) → new.owners ≡ owners_by number old.owners (exchanges (so_far.events ++ fs))
  owners_then fs e = e ∙ ap (λ (o : List Owner). owners_by number o (exchanges fs)) so_far.owners ∙ sym (owners_both number old.owners so_far.events fs)

  -- a last turn, after turns on which the connection went on, together with these is turns of it
  pub turns_then : (most : ℕ) (turn : Turn) → turns < most → TurnsAs 1 unsent reading turn mid new number streams' streams'' between now → TurnsAs most unsent reading turn old new number streams streams'' before now
  turns_then most turn lt t = (
    so_far.events ++ t.0,
    t.1,
    are_both unsent reading old.service mid.service new.service number streams streams' streams'' before between t.1 so_far.events t.0 so_far.are t.2,
    (let few = few_both t.0 t.3 in omega arith),
    no_load_both t.0 ∙ t.4,
    t.5,
    some_both turn t.0 t.1 (streams'' number) t.6,
    none_both t.0 t.7,
    owners_then t.0 t.8,
  )

  -- and if it goes on after that one too, it went on
  pub went_on : TurnsAs 1 unsent reading GoesOn mid new number streams' streams'' between now → WentOn (turns + 1) unsent reading old new number streams streams'' before now
  went_on t = record {
    events = so_far.events ++ t.0;
    are =
        are_both unsent reading old.service mid.service new.service number streams streams' streams'' before between now so_far.events t.0 so_far.are
        (subst (λ (s : ConnectionState). AreTurns unsent reading mid.service new.service number streams' streams'' between s t.0) (sym t.5) t.2);
    few = few_both t.0 t.3;
    no_load = no_load_both t.0 ∙ t.4;
    some = λ lt. some_both GoesOn t.0 t.1 (streams'' number) t.6;
    none_closed = none_both t.0 t.7;
    owners = owners_then t.0 t.8;
  }

-- turns, and then their stream is closed
pub are_closed : (unsent : ℕ) (reading : Reading) (old new : ServiceState) (number : ℕ) (streams between streams' : ℕ → StreamState) (before after : ConnectionState) (events : List Event)
    → AreTurns unsent reading old new number streams between before after events → KeepsBytes number between streams' → AreTurns unsent reading old new number streams streams' before after events
are_closed unsent reading old new number streams between streams' before after events t h =
    subst (λ (es : List Event). AreTurns unsent reading old new number streams streams' before after es) (append-nil events)
    (are_both unsent reading old new new number streams between streams' before after after events [] t (closed unsent reading new number between streams' after h))

-- ---- a share

-- a turn keeps the share, after turns that kept it
pub share_then : (turn : Turn) (a b c : Client) → KeepsShare GoesOn a b → KeepsShare turn b c → KeepsShare turn a c
share_then GoesOn a b c h k = (k.0 ∙ h.0, λ fair. k.1 (h.1 fair))
share_then Loaded a b c h k = (k.0 ∙ h.0, λ fair. k.1 (h.1 fair))
share_then Waits a b c h k = (k.0 ∙ h.0, λ fair. k.1 (h.1 fair))
share_then NeedsRoom a b c h k = (k.0 ∙ h.0, λ fair. k.1 (h.1 fair))
share_then (Ends end) a b c h k = k ∙ h.0

-- ---- one turn

-- if nothing happened, nothing moved
pub moved : (limit : ℕ) (before after : ConnectionState) (events : List Event) → AllHappen limit before events after → Moves before events after → events ≢ []
moved limit before after [] happen (inl m) none = m refl
moved limit before after [] happen (inr (inl m)) none = m refl
moved limit before after [] happen (inr (inr m)) none = m (ap (λ (s : ConnectionState). s.unsent) happen)
moved limit before after (e ∷ events) happen m none = absurd (cc)
