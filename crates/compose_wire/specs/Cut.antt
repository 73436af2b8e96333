-- Reading a stream that comes in pieces.
use Rattle.std.specs.Prelude.{◌≡◌, ℕ, List, [], ◌∷◌, ◌++◌}
use Rattle.compose_wire.specs.Messages.{Request, Fits}
use Rattle.compose_wire.specs.Frames.{frame}

-- what is done with a feeder: it takes a piece after the held bytes, or returns a request from
-- their beginning
pub data Turn : Type 0 where
  takes : List ℕ → Turn
  gives : Request → Turn

-- these turns lead from the first held bytes to the second
abbrev pub Leads : List ℕ → List Turn → List ℕ → Type 0
Leads held [] held' = held ≡ held'
Leads held (takes piece ∷ turns) held' = Leads (held ++ piece) turns held'
Leads held (gives q ∷ turns) held' = Fits q × ((rest : List ℕ) × (held ≡ frame q ++ rest) × Leads rest turns held')

-- the stream that was received
abbrev pub stream_of : List Turn → List ℕ
stream_of [] = []
stream_of (takes piece ∷ turns) = piece ++ stream_of turns
stream_of (gives q ∷ turns) = stream_of turns

-- the requests that were returned
abbrev pub requests_of : List Turn → List Request
requests_of [] = []
requests_of (takes piece ∷ turns) = requests_of turns
requests_of (gives q ∷ turns) = q ∷ requests_of turns
