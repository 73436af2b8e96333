-- How a connection ends, and its state at each end.
use Rattle.std.specs.Prelude.{◌≡◌, ◌≢◌, ℕ, ◌+◌, ◌<◌, ◌≤◌, Bool, true, false, List, [], ◌++◌, length, Option, Result, Ok, Err}
use Rattle.std.specs.Io.KnownBytes.{IsAtEnd}
use Rattle.compose_wire.specs.Frames.{BeginsWithFrame, IsBegun}
use Rattle.compose_serve.specs.Ends.{max_frames, replies_bytes, Served}
use Rattle.compose_serve.specs.Ends as stream
use Rattle.compose_serve.specs.declared.ends.StreamEnd.{StreamEnd}
use Rattle.compose_serve.specs.declared.ends.StreamEnd.TheVariants.{InputEnd, Malformed}
use Rattle.compose_serve.specs.declared.ends.ServeFault.{ServeFault}
use Rattle.compose_serve.specs.declared.ends.ServeFault.TheVariants.{Read, Write, Cut, TooManyFrames, NoMemory}
use Rattle.compose_many.specs.Connection.{ConnectionState, new_connection, Event, AllHappen, requests, replies, sent, refusal, max_reply}

-- all is sent, and no faulty frame was refused
pub record IsQuiet (now : ConnectionState) : Type 0 where
  pub sent : now.unsent ≡ []
  pub goes_on : now.refused ≡ false

-- a connection in this state can end this way
abbrev pub EndsAs : Result StreamEnd ServeFault → Option (List ℕ) → Bool → Bool → ConnectionState → Type 0
EndsAs (Ok InputEnd) left' read_failed write_failed now = IsAtEnd left' × (now.held ≡ []) × IsQuiet now
EndsAs (Ok Malformed) left' read_failed write_failed now = (now.refused ≡ true) × (now.unsent ≡ [])
EndsAs (Err Cut) left' read_failed write_failed now = IsAtEnd left' × (now.held ≢ []) × IsBegun now.held × IsQuiet now
EndsAs (Err Read) left' read_failed write_failed now = (read_failed ≡ true) × IsBegun now.held × IsQuiet now
EndsAs (Err Write) left' read_failed write_failed now = (write_failed ≡ true) × (now.unsent ≢ [])
EndsAs (Err TooManyFrames) left' read_failed write_failed now = (max_frames ≤ now.answered) × BeginsWithFrame now.held × IsQuiet now
EndsAs (Err NoMemory) left' read_failed write_failed now = (now.held ≢ []) × IsQuiet now

-- ---- as a stream ends

-- what was served on a connection: its requests and replies, the bytes after these requests, and
-- the bytes that were sent
abbrev pub served : List Event → ConnectionState → Served
served events now = record { requests = requests events; replies = replies events; rest = now.held; written = sent events }

-- at every end but a failed write, a connection ends as a stream does that `serve` serves
abbrev pub EndsAsStream : Type 0
EndsAsStream =
    (limit : ℕ) (events : List Event) (now : ConnectionState) (end : Result StreamEnd ServeFault) (left' : Option (List ℕ)) (read_failed write_failed : Bool) → AllHappen limit new_connection events now
    → EndsAs end left' read_failed write_failed now → end ≢ Err Write → stream.EndsAs end left' read_failed write_failed (served events now)

-- if a write failed, the last bytes of the replies are missing: fewer than the limit plus the
-- maximum length of a reply
pub record IsMissing (limit : ℕ) (events : List Event) (now : ConnectionState) (write_failed : Bool) : Type 0 where
  pub failed : write_failed ≡ true
  pub missing : List ℕ
  pub some : missing ≢ []
  pub few : length missing < limit + max_reply
  pub written : sent events ++ missing ≡ replies_bytes (replies events ++ refusal now.refused)

abbrev pub EndsAtWrite : Type 0
EndsAtWrite =
    (limit : ℕ) (events : List Event) (now : ConnectionState) (left' : Option (List ℕ)) (read_failed write_failed : Bool) → AllHappen limit new_connection events now
    → EndsAs (Err Write) left' read_failed write_failed now → IsMissing limit events now write_failed

-- with the limit 1, a part of the last reply is missing, as at the end of a stream
abbrev pub EndsAtWriteAsStream : Type 0
EndsAtWriteAsStream =
    (events : List Event) (now : ConnectionState) (left' : Option (List ℕ)) (read_failed write_failed : Bool) → AllHappen 1 new_connection events now
    → EndsAs (Err Write) left' read_failed write_failed now → stream.EndsAs (Err Write) left' read_failed write_failed (served events now)
