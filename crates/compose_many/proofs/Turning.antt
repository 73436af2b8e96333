-- A turn is a list of events of its connection.
use Rattle.std.proofs.Common.{◌≡◌, ◌≢◌, ℕ, ◌+◌, ◌<◌, ◌≤◌, List, [], ◌∷◌, ◌++◌, Bool, true, false, length, refl, sym, ◌∙◌, ap, subst, append-nil, length-append, eqb-true, eq-eqb, inl, inr, arith}
use Rattle.std.specs.Prelude.{◌==◌, ◌⊎◌, Option, Some, Ok, Err}
use Rattle.std.specs.Io.KnownBytes.{Consumes, Appends}
use Rattle.std.proofs.KnownBytes.{Consumes-nil, Consumes-trans, Appends-nil, Appends-trans}
use Rattle.compose_wire.specs.Frames.{frame, IsBegun}
use Rattle.compose_machine.specs.Machine.{ServiceState, Reading}
use Rattle.compose_serve.specs.declared.ends.StreamEnd.TheVariants.{InputEnd}
use Rattle.compose_serve.specs.declared.ends.ServeFault.TheVariants.{Read, Write, Cut, NoMemory as EndsNoMemory}
use Rattle.compose_many.specs.Connection.{ConnectionState, Event, receives, answers, refuses, sends, closes, AllHappen, max_piece, loads, closings, exchanges, closed_of, exchange_of, Receives, Sends, piece_of, sent_of, received, sent}
use Rattle.compose_many.specs.Ends.{IsQuiet}
use Rattle.compose_many.specs.Steps.{StopsAs, KeptAs, loads_before, AreAnswers, SendsAs, IsRoomFor, ReadsAs, behind_answers}
use Rattle.compose_many.specs.Turns.{IsTurn, Moves, IsIdle, FollowsAs, IsShort, loads_in}
use Rattle.compose_many.specs.declared.connection.Stop.{Stop}
use Rattle.compose_many.specs.declared.connection.Stop.TheVariants.{Loaded, NeedsBytes, Full, Refused, NoMemory, TooManyFrames}
use Rattle.compose_many.specs.Streams.{is_failed}
use Rattle.compose_many.specs.declared.streams.TryError.{TryError}
use Rattle.compose_many.specs.declared.turn.Turn.{Turn}
use Rattle.compose_many.specs.declared.turn.Turn.TheVariants.{GoesOn, Loaded as LoadedThen, Waits, NeedsRoom, Ends}
use Rattle.compose_many.proofs.Happening.{behind_nothing, flat-both, flat-more, loads-both, run-both, happen-both}

-- the events of a turn, followed by those of a turn from the state that it leaves, are the events
-- of one turn
pub turn_then : (limit : ℕ) (reading : Reading) (old mid new : ServiceState) (a b c : ConnectionState) (left left' left'' written written' written'' : Option (List ℕ)) (es fs : List Event)
    → IsTurn limit reading old mid a b left left' written written' es → IsTurn limit reading mid new b c left' left'' written' written'' fs
    → IsTurn limit reading old new a c left left'' written written'' (es ++ fs)
turn_then limit reading old mid new a b c left left' left'' written written' written'' es fs x y = record {
  happen = happen-both limit a b c es fs x.happen y.happen;
  run = run-both reading old mid new es fs x.run y.run;
  read = subst (λ l. Consumes left left'' l) (sym (flat-both piece_of es fs)) (Consumes-trans left left' left'' (received es) (received fs) x.read y.read);
  wrote = subst (λ l. Appends written written'' l) (sym (flat-both sent_of es fs)) (Appends-trans written written' written'' (sent es) (sent fs) x.wrote y.wrote);
}

module _ (limit : ℕ) (reading : Reading) (old : ServiceState) (before after : ConnectionState) where
  -- sending bytes that the writer takes is a turn
  pub turn_sent : (left written written' : Option (List ℕ)) (bytes : List ℕ) → Sends before bytes after → Appends written written' bytes
      → IsTurn limit reading old old before after left left written written' (sends bytes ∷ [])
  turn_sent left written written' bytes s w = record { happen = (after, s, refl); run = refl; read = Consumes-nil left; wrote = subst (λ l. Appends written written' l) (sym (append-nil bytes)) w }

  -- receiving a piece from the reader is a turn
  pub turn_read : (left left' written : Option (List ℕ)) (piece : List ℕ) → Receives before piece after → Consumes left left' piece
      → IsTurn limit reading old old before after left left' written written (receives piece ∷ [])
  turn_read left left' written piece s c = record { happen = (after, s, refl); run = refl; read = subst (λ l. Consumes left left' l) (sym (append-nil piece)) c; wrote = Appends-nil written }

  pub turn_answered : (new : ServiceState) (left written : Option (List ℕ)) (events : List Event) → AreAnswers limit reading old new before after events
      → IsTurn limit reading old new before after left left written written events
  turn_answered new left written events a = record {
    happen = a.happen;
    run = a.run;
    read = subst (λ l. Consumes left left l) (sym a.none_came) (Consumes-nil left);
    wrote = subst (λ l. Appends written written l) (sym a.none_sent) (Appends-nil written);
  }

-- ---- how much is held

pub held_grows : (limit : ℕ) (before after : ConnectionState) (events : List Event) → AllHappen limit before events after → length after.held ≤ length before.held + length (received events)
held_grows limit before after [] h = let same : length after.held ≡ length before.held = ap (λ (t : ConnectionState). length t.held) h in omega arith
held_grows limit before after (receives piece ∷ events) h =
    let more : length (before.held ++ piece) ≡ length before.held + length piece = length-append before.held piece in
    let both : length (piece ++ received events) ≡ length piece + length (received events) = length-append piece (received events) in
    let mid : length h.0.held ≡ length (before.held ++ piece) = ap (λ (t : ConnectionState). length t.held) h.1.after in
    let rest = held_grows limit h.0 after events h.2 in
    omega arith
held_grows limit before after (answers x ∷ events) h =
    let mid : length before.held ≡ length (frame x.request) + length h.0.held = ap length h.1.first ∙ length-append (frame x.request) h.0.held in
    let rest = held_grows limit h.0 after events h.2 in
    omega arith
held_grows limit before after (refuses ∷ events) h =
    let mid : length h.0.held ≡ length before.held = ap (λ (t : ConnectionState). length t.held) h.1.after in
    let rest = held_grows limit h.0 after events h.2 in
    omega arith
held_grows limit before after (sends bytes ∷ events) h =
    let mid : length h.0.held ≡ length before.held = ap (λ (t : ConnectionState). length t.held) h.1.after in
    let rest = held_grows limit h.0 after events h.2 in
    omega arith
held_grows limit before after (closes x ∷ events) h =
    let mid : length h.0.held ≡ length before.held = ap (λ (t : ConnectionState). length t.held) h.1.after in
    let rest = held_grows limit h.0 after events h.2 in
    omega arith

-- if nothing came, no more is held than before
pub holds_no_more : (limit most : ℕ) (reading : Reading) (old new : ServiceState) (before mid after : ConnectionState) (bytes : List ℕ) (events : List Event) → Sends before bytes mid
    → AreAnswers limit reading old new mid after events
    → length before.held < most → length after.held < most
holds_no_more limit most reading old new before mid after bytes events s a h =
    let sent : length mid.held ≡ length before.held = ap (λ (t : ConnectionState). length t.held) s.after in
    let none : length (received events) ≡ 0 = ap length a.none_came in
    let grows = held_grows limit mid after events a.happen in
    omega arith

-- a piece for which there was room is no longer than the maximum
pub few_bytes : (most : ℕ) (held piece : List ℕ) → IsRoomFor most held piece → length piece ≤ max_piece
few_bytes most held piece (inl e) = let none : length piece ≡ 0 = ap length e in omega arith
few_bytes most held piece (inr r) = r.1

-- no more is held after sending than before
pub sent_holds_no_more : (most : ℕ) (before after : ConnectionState) (bytes : List ℕ) → Sends before bytes after → length before.held < most → length after.held < most
sent_holds_no_more most before after bytes s h = let sent : length after.held ≡ length before.held = ap (λ (t : ConnectionState). length t.held) s.after in omega arith

-- if fewer bytes are held than the limit and one more piece, this stays so after a piece for which
-- there was room
pub read_holds_little : (most : ℕ) (held piece : List ℕ) → IsRoomFor most held piece → length held < most + max_piece → length (held ++ piece) < most + max_piece
read_holds_little most held piece (inl e) h =
    let both : length (held ++ piece) ≡ length held + length piece = length-append held piece in
    let none : length piece ≡ 0 = ap length e in
    omega arith
read_holds_little most held piece (inr r) h =
    let both : length (held ++ piece) ≡ length held + length piece = length-append held piece in
    let below = r.0 in
    let few = r.1 in
    omega arith

-- ---- what follows

-- what follows a turn in which bytes were sent and nothing else happened, by how sending ended
pub follows_sent : (most : ℕ) (turn : Turn) (before now : ConnectionState) (bytes : List ℕ) (left' : Option (List ℕ)) (read_mark write_mark : Option TryError)
    → SendsAs (Some turn) bytes now write_mark → FollowsAs most turn before (sends bytes ∷ []) now now left' read_mark write_mark
follows_sent most GoesOn before now bytes left' rf wf h = (refl, inl (λ e. h (sym (append-nil bytes) ∙ e)))
follows_sent most Waits before now bytes left' rf wf h = (refl, inl h)
follows_sent most (Ends (Err Write)) before now bytes left' rf wf h = (ap is_failed h.0, h.1)
follows_sent most _ before now bytes left' rf wf h = absurd h

-- if all was sent, and something is unsent after the answers, the turn did something
pub moves : (before mid after : ConnectionState) (bytes : List ℕ) (events : List Event) → Sends before bytes mid → mid.unsent ≡ [] → after.unsent ≢ [] → Moves before (sends bytes ∷ events) after
moves before mid after [] events s e n = inr (inr (λ same. n (same ∙ s.first ∙ e)))
moves before mid after (b ∷ bytes) events s e n = inl (λ none. cc)

-- a turn that answered requests until this stop goes on, and its result shows whether a load was
-- answered
pub loads_behind : (stop : Stop) → loads_before stop ≡ loads_in (behind_answers stop)
loads_behind Loaded = refl
loads_behind NeedsBytes = refl
loads_behind Full = refl
loads_behind Refused = refl
loads_behind NoMemory = refl
loads_behind TooManyFrames = refl

pub follows_answers : (most : ℕ) (stop : Stop) (before after now : ConnectionState) (events : List Event) (left' : Option (List ℕ)) (read_mark write_mark : Option TryError) → now ≡ after
    → Moves before events after → FollowsAs most (behind_answers stop) before events after now left' read_mark write_mark
follows_answers most Loaded before after now events left' read_mark write_mark e m = (e, m)
follows_answers most NeedsBytes before after now events left' read_mark write_mark e m = (e, m)
follows_answers most Full before after now events left' read_mark write_mark e m = (e, m)
follows_answers most Refused before after now events left' read_mark write_mark e m = (e, m)
follows_answers most NoMemory before after now events left' read_mark write_mark e m = (e, m)
follows_answers most TooManyFrames before after now events left' read_mark write_mark e m = (e, m)

-- if something is unsent, no frame was dropped
pub is_kept : (stop : Stop) (after now : ConnectionState) → KeptAs stop after now → now.unsent ≢ [] → now ≡ after
is_kept TooManyFrames after now k n = absurd (n k)
is_kept Loaded after now k n = k
is_kept NeedsBytes after now k n = k
is_kept Full after now k n = k
is_kept Refused after now k n = k
is_kept NoMemory after now k n = k

module _ (most : ℕ) (s now : ConnectionState) (piece : List ℕ) (left' : Option (List ℕ)) (read_mark write_mark : Option TryError) (begun : IsBegun s.held) (quiet : IsQuiet s) where
  abbrev with_piece : ConnectionState
  with_piece = record s { held = s.held ++ piece }

  nothing_came : piece ≡ [] → s ≡ with_piece
  nothing_came e = ap (λ l. let t : ConnectionState = record s { held = l } in t) (sym (ap (λ l. s.held ++ l) e ∙ append-nil s.held))

  held_is : piece ≡ [] → s.held ++ piece ≡ s.held
  held_is e = ap (λ l. s.held ++ l) e ∙ append-nil s.held

  idle : now ≡ s → IsIdle now
  idle e = (subst (λ (t : ConnectionState). IsBegun t.held) (sym e) begun, subst IsQuiet (sym e) quiet)

  quiet_then : IsQuiet with_piece
  quiet_then = record { sent = quiet.sent; goes_on = quiet.goes_on }

  begun_then : piece ≡ [] → IsBegun (s.held ++ piece)
  begun_then e = subst IsBegun (sym (held_is e)) begun

  -- what follows a turn whose last event is the piece that came, by how reading ended
  pub follows_read : (turn : Turn) (before : ConnectionState) (events : List Event) → ReadsAs most turn s piece now left' read_mark
      → FollowsAs most turn before (events ++ receives piece ∷ []) with_piece now left' read_mark write_mark
  follows_read GoesOn before events h = (h.1, inr (inl (λ e. h.0 (behind_nothing (received events) piece (sym (flat-more piece_of events (receives piece)) ∙ e)))))
  follows_read LoadedThen before events h = absurd h
  follows_read Waits before events h = (h.2 ∙ nothing_came h.1, inr (h.0, idle h.2))
  follows_read NeedsRoom before events h = (h.1 ∙ nothing_came h.0, subst (λ (t : ConnectionState). most ≤ length t.held) (sym h.1) h.2, idle h.1)
  follows_read (Ends (Ok InputEnd)) before events h = (h.1, held_is h.0 ∙ h.2, quiet_then)
  follows_read (Ends (Err Cut)) before events h = (h.1, λ e. h.2 (sym (held_is h.0) ∙ e), begun_then h.0, quiet_then)
  follows_read (Ends (Err Read)) before events h = (ap is_failed h.1, begun_then h.0, quiet_then)
  follows_read (Ends (Err EndsNoMemory)) before events h = (h, quiet_then)
  follows_read (Ends _) before events h = absurd h

  -- if all is sent and nothing was refused, the piece comes after what is held
  pub receives_so : Receives s piece with_piece
  receives_so = record { goes_on = quiet.goes_on; all_sent = quiet.sent; after = refl }

-- sending, and then answering, is a turn
pub turn_on : (limit : ℕ) (reading : Reading) (old new : ServiceState) (before mid after : ConnectionState) (left written written' : Option (List ℕ)) (bytes : List ℕ) (events : List Event)
    → Sends before bytes mid
    → Appends written written' bytes → AreAnswers limit reading old new mid after events → IsTurn limit reading old new before after left left written written' (sends bytes ∷ events)
turn_on limit reading old new before mid after left written written' bytes events s w a =
    turn_then limit reading old old new before mid after left left left written written' written' (sends bytes ∷ []) events (turn_sent limit reading old before mid left written written' bytes s w)
    (turn_answered limit reading old mid after new left written' events a)

-- ---- a turn is short

module _ (turn : Turn) (bytes : List ℕ) where
  -- bytes were sent, and nothing else happened
  pub short_sent : loads_in turn ≡ 0 → IsShort turn (sends bytes ∷ [])
  short_sent e = record { piece = omega arith; load = sym e; none_closed = refl }

  module _ (limit : ℕ) (reading : Reading) (old new : ServiceState) (before after : ConnectionState) (events : List Event) (a : AreAnswers limit reading old new before after events) where
    -- bytes were sent, and then requests were answered
    pub short_answered : loads events ≡ loads_in turn → IsShort turn (sends bytes ∷ events)
    short_answered e = record { piece = (let none : length (received events) ≡ 0 = ap length a.none_came in omega arith); load = e; none_closed = a.none_closed }

    came : (piece : List ℕ) → received ((sends bytes ∷ events) ++ receives piece ∷ []) ≡ piece
    came piece = flat-more piece_of (sends bytes ∷ events) (receives piece) ∙ ap (λ l. l ++ piece) a.none_came

    -- and then a piece came for which there was room
    pub short_read : (most : ℕ) (held piece : List ℕ) → IsRoomFor most held piece → loads events ≡ 0 → loads_in turn ≡ 0 → IsShort turn ((sends bytes ∷ events) ++ receives piece ∷ [])
    short_read most held piece room e f = record {
      piece = (let same : length (received ((sends bytes ∷ events) ++ receives piece ∷ [])) ≡ length piece = ap length (came piece) in let few = few_bytes most held piece room in omega arith);
      load = loads-both (sends bytes ∷ events) (receives piece ∷ []) ∙ ap (λ m. m + 0) e ∙ sym f;
      none_closed = flat-more closed_of (sends bytes ∷ events) (receives piece) ∙ append-nil (closings events) ∙ a.none_closed;
    }

-- sending answers no load
pub sent_loads : (turn : Turn) (bytes : List ℕ) (now : ConnectionState) (mark : Option TryError) → SendsAs (Some turn) bytes now mark → loads_in turn ≡ 0
sent_loads LoadedThen bytes now mark h = absurd h
sent_loads GoesOn bytes now mark h = refl
sent_loads Waits bytes now mark h = refl
sent_loads NeedsRoom bytes now mark h = refl
sent_loads (Ends end) bytes now mark h = refl

-- receiving a piece is no exchange
pub exchanges_read : (events : List Event) (piece : List ℕ) → exchanges (events ++ receives piece ∷ []) ≡ exchanges events
exchanges_read events piece = flat-more exchange_of events (receives piece) ∙ append-nil (exchanges events)

-- reading answers no load
pub read_loads : (turn : Turn) (most : ℕ) (s s' : ConnectionState) (piece : List ℕ) (left' : Option (List ℕ)) (mark : Option TryError) → ReadsAs most turn s piece s' left' mark → loads_in turn ≡ 0
read_loads LoadedThen most s s' piece left' mark h = absurd h
read_loads GoesOn most s s' piece left' mark h = refl
read_loads Waits most s s' piece left' mark h = refl
read_loads NeedsRoom most s s' piece left' mark h = refl
read_loads (Ends end) most s s' piece left' mark h = refl

-- a connection on which nothing is unsent and no faulty frame was refused is quiet
pub is_quiet : (after now : ConnectionState) → now ≡ after → now.unsent ≡ [] → after.refused ≡ false → IsQuiet after
is_quiet after now e u r = record { sent = ap (λ (t : ConnectionState). t.unsent) (sym e) ∙ u; goes_on = r }

-- if a list of the same bytes tests as empty, there are none
pub none_left : (xs ys : List ℕ) (b : Bool) → b ≡ true → b ≡ (length xs == 0) → xs ≡ ys → ys ≡ []
none_left [] ys b t e x = sym x
none_left (y ∷ xs) ys b t e x = let z : length (y ∷ xs) ≡ 0 = eqb-true (length (y ∷ xs)) 0 (sym e ∙ t) in absurd (omega arith)

-- if a list of the same bytes doesn't test as empty, there are some
pub some_left : (xs ys : List ℕ) (b : Bool) → b ≡ false → b ≡ (length xs == 0) → xs ≡ ys → ys ≢ []
some_left xs ys b t e x n = let z : false ≡ true = sym t ∙ e ∙ eq-eqb (length xs) 0 (ap length (x ∙ n)) in cc

-- if nothing is unsent, the limit isn't reached, and the last step neither refused a faulty frame
-- nor answered a load
pub not_full : (limit : ℕ) (stop : Stop) (after now : ConnectionState) → 0 < limit → (stop ≡ Full) ⊎ ((stop ≡ Refused) ⊎ (stop ≡ Loaded)) → StopsAs limit stop after → KeptAs stop after now → now.unsent ≡ [] → ⊥
not_full limit Full after now some is (inl s) k u =
    let none : length after.unsent ≡ 0 = ap (λ (t : ConnectionState). length t.unsent) (sym k) ∙ ap length u in
    absurd (omega arith)
not_full limit Full after now some is (inr s) k u = s (ap (λ (t : ConnectionState). t.unsent) (sym k) ∙ u)
not_full limit Loaded after now some is s k u = s (ap (λ (t : ConnectionState). t.unsent) (sym k) ∙ u)
not_full limit Refused after now some is s k u = s.1 (ap (λ (t : ConnectionState). t.unsent) (sym k) ∙ u)
not_full limit NeedsBytes after now some (inl e) s k u = cc
not_full limit NeedsBytes after now some (inr (inl e)) s k u = cc
not_full limit NeedsBytes after now some (inr (inr e)) s k u = cc
not_full limit NoMemory after now some (inl e) s k u = cc
not_full limit NoMemory after now some (inr (inl e)) s k u = cc
not_full limit NoMemory after now some (inr (inr e)) s k u = cc
not_full limit TooManyFrames after now some (inl e) s k u = cc
not_full limit TooManyFrames after now some (inr (inl e)) s k u = cc
not_full limit TooManyFrames after now some (inr (inr e)) s k u = cc
