-- The loop of the service: one round for each wait, and nothing else.
use Rattle.std.specs.Prelude.{◌≡◌, ◌⊎◌, ℕ, max, List, [], ◌∷◌, ◌++◌, length, get_or, Option, Some, None, Result, Ok, Err}
use Rattle.compose_machine.specs.Machine.{Reading}
use Rattle.compose_many.specs.Connection.{new_connection}
use Rattle.compose_hub.specs.Sockets.{BytesStay}
use Rattle.compose_hub.specs.Waits.{Wait, waits_more}
use Rattle.compose_hub.specs.Turns.{owned}
use Rattle.compose_hub.specs.Serving.{World, Now, at_now, world_now, HasNone}
use Rattle.compose_hub.specs.Round.{IsRound}
use Rattle.compose_hub.specs.declared.client.Client.{Client}
use Rattle.compose_hub.specs.declared.client.Limits.{Limits}
use Rattle.compose_hub.specs.declared.client.WaitsFor.TheVariants.{Turn as ForTurn}

-- the service between two rounds: what has happened, the time, and the slots
pub record Standing : Type 0 where
  pub now : Now
  pub time : ℕ
  pub slots : List (Option Client)

-- before the first round: nothing has happened in this world, no time has passed, and there is a
-- free slot for each connection that is served at once
pub record IsFirst (limits : Limits) (first : World) (start : Standing) : Type 0 where
  pub nothing : start.now ≡ at_now (owned first.service []) first.streams first.reported
  pub time : start.time ≡ 0
  pub free : HasNone start.slots
  pub enough : length start.slots ≡ max limits.at_once 1

-- a new connection is in this slot, and its turn is next since this time
abbrev pub IsNew : ℕ → Option Client → Type 0
IsNew time slot = (c : Client) × (slot ≡ Some c) × (c.connection ≡ new_connection) × (c.waits_for ≡ ForTurn) × (c.since ≡ time)

-- a slot is as it was; or it was free, and has a new connection
abbrev pub KeepsOrAccepts : ℕ → Option Client → Option Client → Type 0
KeepsOrAccepts time before now = (now ≡ before) ⊎ ((before ≡ None) × IsNew time now)

abbrev pub AllKeepOrAccept : ℕ → List (Option Client) → List (Option Client) → Type 0
AllKeepOrAccept time before now = (key : ℕ) → KeepsOrAccepts time (get_or before key None) (get_or now key None)

-- connections may have been accepted into free slots, and nothing else happened
pub record Accepts (before now : Standing) : Type 0 where
  pub state : now.now.state ≡ before.now.state
  pub bytes : BytesStay before.now.streams now.now.streams
  pub reported : now.now.reported ≡ before.now.reported
  pub time : now.time ≡ before.time
  pub slots : AllKeepOrAccept before.time before.slots now.slots

-- connections are accepted, and then the round after this wait is taken
abbrev pub TakesRound : Limits → Reading → Wait → Standing → Standing → Type 0
TakesRound limits reading wait old new =
    (accepted : Standing) × Accepts old accepted
    × IsRound limits reading wait.ready wait.passed accepted.now new.now accepted.time new.time accepted.slots new.slots

-- one round for each of these waits, one after another, and nothing else
abbrev pub TakesRounds : Limits → Reading → List Wait → Standing → Standing → Type 0
TakesRounds limits reading [] old new = new ≡ old
TakesRounds limits reading (wait ∷ waits) old new =
    (mid : Standing) × TakesRound limits reading wait old mid × TakesRounds limits reading waits mid new

-- the loop ends between two rounds, in this world; or the report of an end fails in the round after
-- a wait
abbrev pub EndsAt : {X E : Type 0} → List Wait → Result X E → World → World → Type 0
EndsAt [] result last now = now ≡ last
EndsAt (wait ∷ []) (Err e) last now = Unit {0}
EndsAt _ _ last now = ⊥

-- the loop has taken one round for each wait, from the start on, and nothing else
pub record IsLoop {X E : Type 0} (limits : Limits) (reading : Reading) (waits waits' : Option (List Wait)) (first now : World) (result : Result X E) : Type 0 where
  -- the waits whose rounds were taken to their end, and one whose round was broken off, if one was
  pub taken : List Wait
  pub broken : List Wait
  pub waited : waits' ≡ waits_more waits (taken ++ broken)
  pub start : Standing
  pub begins : IsFirst limits first start
  pub last : Standing
  pub rounds : TakesRounds limits reading taken start last
  pub accepted : Standing
  pub accepts : Accepts last accepted
  pub ends : EndsAt broken result (world_now accepted.now) now
