-- What comes next on a stream: a request, or why there is none (this project's profile).
use Rattle.std.specs.Prelude.{◌≡◌, ◌≢◌, ℕ, ◌<◌, Bool, true, List, [], ◌++◌, length, Option, Result, Ok, Err, IsSome}
use Rattle.std.specs.Io.KnownBytes.{IsAtEnd}
use Rattle.compose_wire.specs.Messages.{Fits}
use Rattle.compose_wire.specs.Frames.{frame, fault_at, IsBegun}
use Rattle.compose_wire.specs.Requests.{request_of}
use Rattle.compose_wire.specs.declared.request.Request.{Request}
use Rattle.compose_serve.specs.declared.next.Stop.{Stop}
use Rattle.compose_serve.specs.declared.next.Stop.TheVariants.{Faulty, End, EndInFrame, ReadFailed, NoMemory}
use Rattle.compose_serve.specs.declared.next.PullResult.{PullResult}
use Rattle.compose_serve.specs.declared.next.PullResult.TheVariants.{More, End as AtEnd, Failure, NoRoom}

-- the result of pulling a piece: rest is what was held, and after it what came
abbrev pub IsPullResult : PullResult → List ℕ → List ℕ → List ℕ → Option (List ℕ) → Bool → Type 0
IsPullResult More held rest held' left' failed' = (held' ≡ rest) × (length held < length held')
IsPullResult AtEnd held rest held' left' failed' = (rest ≡ held) × (held' ≡ held) × IsAtEnd left'
IsPullResult Failure held rest held' left' failed' = (rest ≡ held) × (held' ≡ held) × (failed' ≡ true)
IsPullResult NoRoom held rest held' left' failed' = rest ≢ []

-- the next request, or why there is none: rest is what was not yet returned
abbrev pub IsNextRequest : Result Request Stop → List ℕ → List ℕ → Option (List ℕ) → Bool → Type 0
IsNextRequest (Ok q) rest held' left' failed' = Fits (request_of q) × (rest ≡ frame (request_of q) ++ held')
IsNextRequest (Err Faulty) rest held' left' failed' = IsSome (fault_at rest)
IsNextRequest (Err End) rest held' left' failed' = IsAtEnd left' × (rest ≡ [])
IsNextRequest (Err EndInFrame) rest held' left' failed' = IsAtEnd left' × (rest ≢ []) × IsBegun rest
IsNextRequest (Err ReadFailed) rest held' left' failed' = (failed' ≡ true) × IsBegun rest
IsNextRequest (Err NoMemory) rest held' left' failed' = rest ≢ []
