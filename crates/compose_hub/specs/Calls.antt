-- The calls of the system that polled sockets make (accept(2), epoll_ctl(2)).
use Rattle.std.specs.Prelude.{◌≡◌, ◌⊎◌, ℕ, Bool, true, List, [], ◌∷◌, ◌++◌, Option, Some, None}
use Rattle.compose_hub.specs.declared.sockets.AcceptedStream.{AcceptedStream}
use Rattle.compose_hub.specs.declared.sockets.AcceptedStream.TheVariants.{Connection, NoneWaits, GivenUp, Fails}

-- a connection is accepted; or it is watched under a key, for reading or not, for writing or not
pub data Call : Type 0 where
  accepts : Call
  watches : ℕ → Bool → Bool → Call

-- the calls so far, if they are counted, and then these
abbrev pub calls_more : Option (List Call) → List Call → Option (List Call)
calls_more None more = None
calls_more (Some calls) more = Some (calls ++ more)

-- a connection is watched under this key, for reading and for writing
abbrev pub watches_both : ℕ → Call
watches_both key = watches key true true

-- the calls that accept a connection under this key: what is accepted is watched; a connection is
-- given up without a call if its number is in use, and otherwise if it can't be accepted, watched
-- or kept
abbrev pub AreAccepting : ℕ → AcceptedStream → List Call → Type 0
AreAccepting key Connection made = made ≡ accepts ∷ watches_both key ∷ []
AreAccepting key NoneWaits made = made ≡ accepts ∷ []
AreAccepting key Fails made = made ≡ accepts ∷ []
AreAccepting key GivenUp made = (made ≡ []) ⊎ (made ≡ accepts ∷ []) ⊎ (made ≡ accepts ∷ watches_both key ∷ [])
