-- What is true of a client over every list of events.
use Rattle.std.specs.Prelude.{◌≡◌, ℕ, ◌+◌, if◌then◌else◌, List, [], ◌∷◌, sum_by}
use Rattle.compose_wire.specs.Messages.{Reply}
use Rattle.compose_typing.specs.declared.action.Action.{Action}
use Rattle.compose_typing.specs.declared.action.Action.TheVariants.{Wait, Send, Connect, Tell, Abandon, Close}
use Rattle.compose_typing.specs.TypingSession.{Client, Outcome, does, waits, press_outcome, connected, answered, lost, timeout_outcome, erase_outcome, dropped, close_outcome}

-- what happens to a client
pub data Event : Type 0 where
  press : ℕ → Event
  connect : ℕ → Event
  reply : Reply → Event
  lose : Event
  time_out : Event
  erase : Event
  drop_pending : Event
  close : Event

abbrev pub happens : Client → Event → Outcome
happens c (press k) = press_outcome c k
happens c (connect n) = connected c n
happens c (reply r) = answered c r
happens c lose = lost c
happens c time_out = timeout_outcome c
happens c erase = erase_outcome c
happens c drop_pending = does (dropped c) Wait
happens c close = close_outcome c

-- the client after these events, and its action at each
abbrev pub after : Client → List Event → Client
after c [] = c
after c (e ∷ es) = after (happens c e).client es

abbrev pub actions : Client → List Event → List Action
actions c [] = []
actions c (e ∷ es) = (happens c e).action ∷ actions (happens c e).client es

-- ---- verdicts

-- the number of verdicts in an action
abbrev pub verdicts : Action → ℕ
verdicts Wait = 0
verdicts (Send bytes) = 0
verdicts Connect = 0
verdicts (Tell verdict) = 1
verdicts Abandon = 1
verdicts Close = 0

abbrev pub presses : Event → ℕ
presses (press k) = 1
presses _ = 0

-- the number of keys that wait: one or none
abbrev pub waiting : Client → ℕ
waiting c = if waits c.stage then 1 else 0

-- each key that was pressed has one verdict, or waits for it; at most one waits
abbrev pub OneVerdict : Type 0
OneVerdict = (c : Client) (es : List Event) → sum_by verdicts (actions c es) + waiting (after c es) ≡ waiting c + sum_by presses es
