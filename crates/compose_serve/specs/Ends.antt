-- How a service on a stream ends, and what is true then.
use Rattle.std.specs.Prelude.{◌≡◌, ◌≢◌, ℕ, ◌≤◌, Bool, true, List, [], ◌∷◌, ◌++◌, length, flat_map, Option, Result, Ok, Err, IsSome, IsTrue, ◌⊎◌}
use Rattle.std.specs.List.{AllByRecursion}
use Rattle.std.specs.Io.KnownBytes.{Consumes, Appends, IsAtEnd}
use Rattle.compose_model.specs.Table.{is_proper_prefix}
use Rattle.compose_wire.specs.Messages.{Request, Fits, Reply, refused, malformed}
use Rattle.compose_wire.specs.Frames.{frames, fault_at, reply_bytes, BeginsWithFrame, IsBegun}
use Rattle.compose_machine.specs.Machine.{ServiceState, Reading, Run}
use Rattle.compose_serve.specs.declared.next.Stop.{Stop}
use Rattle.compose_serve.specs.declared.next.Stop.TheVariants.{Faulty, End, EndInFrame, ReadFailed, NoMemory as StopNoMemory}
use Rattle.compose_serve.specs.declared.ends.StreamEnd.{StreamEnd}
use Rattle.compose_serve.specs.declared.ends.StreamEnd.TheVariants.{InputEnd, Malformed}
use Rattle.compose_serve.specs.declared.ends.ServeFault.{ServeFault}
use Rattle.compose_serve.specs.declared.ends.ServeFault.TheVariants.{Read, Write, Cut, TooManyFrames, NoMemory}

abbrev pub replies_bytes : List Reply → List ℕ
replies_bytes a = flat_map reply_bytes a

-- the greatest number of requests on a stream
abbrev pub max_frames : ℕ
max_frames = 16777216

-- the reply to a faulty frame
abbrev pub malformed_reply : Reply
malformed_reply = record { session = 0; answer = refused malformed }

-- the requests that were answered, their replies, the bytes that were read after these requests,
-- and the bytes that were written
pub record Served : Type 0 where
  pub requests : List Request
  pub replies : List Reply
  pub rest : List ℕ
  pub written : List ℕ

-- the bytes read begin with the frames of the requests, and the state is the machine's state after
-- these
pub record IsServed (reading : Reading) (old new : ServiceState) (left left' written written' : Option (List ℕ)) (s : Served) : Type 0 where
  pub fit : AllByRecursion Fits s.requests
  pub run : Run reading old s.requests s.replies new
  pub few : length s.requests ≤ max_frames
  pub read : Consumes left left' (frames s.requests ++ s.rest)
  pub wrote : Appends written written' s.written

-- ---- the ends

abbrev pub AllWritten : Served → Type 0
AllWritten s = s.written ≡ replies_bytes s.replies

-- the input is at its end, after a whole frame
pub record EndsInput (s : Served) (left' : Option (List ℕ)) : Type 0 where
  pub at_end : IsAtEnd left'
  pub whole : s.rest ≡ []
  pub written : AllWritten s

-- a faulty frame follows, and was answered too
pub record EndsMalformed (s : Served) : Type 0 where
  pub faulty : IsSome (fault_at s.rest)
  pub written : s.written ≡ replies_bytes (s.replies ++ malformed_reply ∷ [])

-- the input is at its end, in the middle of a frame
pub record EndsCut (s : Served) (left' : Option (List ℕ)) : Type 0 where
  pub at_end : IsAtEnd left'
  pub some : s.rest ≢ []
  pub begun : IsBegun s.rest
  pub written : AllWritten s

-- a read failed; every whole frame that was read is answered
pub record EndsRead (s : Served) (read_failed : Bool) : Type 0 where
  pub failed : read_failed ≡ true
  pub begun : IsBegun s.rest
  pub written : AllWritten s

-- a write failed: a part is missing of the last reply, which is to the last request or to a faulty
-- frame after it
pub record EndsWrite (s : Served) (write_failed : Bool) : Type 0 where
  pub failed : write_failed ≡ true
  pub before : List Reply
  pub last : Reply
  pub part : List ℕ
  pub is_last : (s.replies ≡ before ++ last ∷ []) ⊎ ((s.replies ≡ before) × (last ≡ malformed_reply) × IsSome (fault_at s.rest))
  pub missing : IsTrue (is_proper_prefix part (reply_bytes last))
  pub written : s.written ≡ replies_bytes before ++ part

-- one frame more follows than may be answered
pub record EndsTooMany (s : Served) : Type 0 where
  pub all : length s.requests ≡ max_frames
  pub more : BeginsWithFrame s.rest
  pub written : AllWritten s

-- there is no memory for bytes that were read
pub record EndsNoMemory (s : Served) : Type 0 where
  pub some : s.rest ≢ []
  pub written : AllWritten s

abbrev pub EndsAs : Result StreamEnd ServeFault → Option (List ℕ) → Bool → Bool → Served → Type 0
EndsAs (Ok InputEnd) left' read_failed write_failed s = EndsInput s left'
EndsAs (Ok Malformed) left' read_failed write_failed s = EndsMalformed s
EndsAs (Err Cut) left' read_failed write_failed s = EndsCut s left'
EndsAs (Err Read) left' read_failed write_failed s = EndsRead s read_failed
EndsAs (Err Write) left' read_failed write_failed s = EndsWrite s write_failed
EndsAs (Err TooManyFrames) left' read_failed write_failed s = EndsTooMany s
EndsAs (Err NoMemory) left' read_failed write_failed s = EndsNoMemory s

-- what is written at a stop, and how the stream ends then
abbrev pub EndsBy : Stop → Result StreamEnd ServeFault → Option (List ℕ) → Option (List ℕ) → Bool → Type 0
EndsBy Faulty (Ok Malformed) written written' failed' = Appends written written' (reply_bytes malformed_reply)
EndsBy Faulty (Err Write) written written' failed' =
    (part : List ℕ) × IsTrue (is_proper_prefix part (reply_bytes malformed_reply)) × Appends written written' part × (failed' ≡ true)
EndsBy End (Ok InputEnd) written written' failed' = written' ≡ written
EndsBy EndInFrame (Err Cut) written written' failed' = written' ≡ written
EndsBy ReadFailed (Err Read) written written' failed' = written' ≡ written
EndsBy StopNoMemory (Err NoMemory) written written' failed' = written' ≡ written
EndsBy _ _ written written' failed' = ⊥

-- what is true at the end of a stream
abbrev pub Serves : Reading → ServiceState → ServiceState → Option (List ℕ) → Option (List ℕ) → Option (List ℕ) → Option (List ℕ) → Bool → Bool → Result StreamEnd ServeFault → Type 0
Serves reading old new left left' written written' read_failed write_failed result =
    (s : Served) × IsServed reading old new left left' written written' s × EndsAs result left' read_failed write_failed s
