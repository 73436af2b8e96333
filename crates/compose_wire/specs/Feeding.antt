-- What is returned of the bytes that are held (this project's protocol).
use Rattle.std.specs.Prelude.{◌≡◌, ◌≢◌, ℕ, ◌+◌, ◌<◌, ◌≤◌, List, [], ◌++◌, length, take, drop, slice_index, ◌==◌, if◌then◌else◌, Option, Some, None, Result, Ok, Err}
use Rattle.std.specs.Int.{from_be_bytes, w32}
use Rattle.compose_model.specs.declared.Rule.TheVariants.{Refuse, Longest}
use Rattle.compose_wire.specs.Messages.{Body, open_session, key, reset, close, load, ask, Request as RequestValue, Fits}
use Rattle.compose_wire.specs.Frames.{frame, Fault, fault_at, unknown_kind, bad_length, too_long, IsBegun, BeginsWithFrame, stated_size, max_frame}
use Rattle.compose_wire.specs.Requests.{request_of}
use Rattle.compose_wire.specs.declared.request.Request.{Request}
use Rattle.compose_wire.specs.declared.fault.WireFault.{WireFault}
use Rattle.compose_wire.specs.declared.fault.WireFault.TheVariants.{UnknownKind, BadLength, TooLong, NoMemory}

-- the program's name of a fault
abbrev pub wire_fault : Fault → WireFault
wire_fault unknown_kind = UnknownKind
wire_fault bad_length = BadLength
wire_fault too_long = TooLong

-- a load with a non-empty payload
abbrev pub IsLoaded : Body → Type 0
IsLoaded (load rule bytes) = bytes ≢ []
IsLoaded _ = ⊥

-- the bytes begin with the frame of such a load
abbrev pub BeginsWithLoad : List ℕ → Type 0
BeginsWithLoad bytes = (q : RequestValue) × (more : List ℕ) × Fits q × IsLoaded q.body × (bytes ≡ frame q ++ more)

-- the fault is that of the held bytes; only a load needs memory
abbrev pub IsFaultOf : List ℕ → WireFault → Type 0
IsFaultOf held UnknownKind = fault_at held ≡ Some unknown_kind
IsFaultOf held BadLength = fault_at held ≡ Some bad_length
IsFaultOf held TooLong = fault_at held ≡ Some too_long
IsFaultOf held NoMemory = BeginsWithLoad held

-- the result for the held bytes, and what is held after it: if they begin with a frame, its request
-- is returned; else all is held as before
abbrev pub Returns : Result (Option Request) WireFault → List ℕ → List ℕ → Type 0
Returns (Ok (Some q)) held held' = Fits (request_of q) × (held ≡ frame (request_of q) ++ held')
Returns (Ok None) held held' = IsBegun held × (length held < max_frame) × (held' ≡ held)
Returns (Err fault) held held' = IsFaultOf held fault × (held' ≡ held)

-- the result if the bytes begin with a frame: its request, or an error if memory runs out
abbrev pub ReturnsRequest : RequestValue → List ℕ → Result (Option Request) WireFault → List ℕ → Type 0
ReturnsRequest q more (Ok (Some r)) held' = (request_of r ≡ q) × (held' ≡ more)
ReturnsRequest q more (Err NoMemory) held' = IsLoaded q.body × (held' ≡ frame q ++ more)
ReturnsRequest q more _ held' = ⊥

-- ---- the parts: definitions for the contracts of private functions

-- the length of the payload, if there is a whole frame
abbrev pub IsSize : Result (Option ℕ) WireFault → List ℕ → Type 0
IsSize (Ok (Some size)) held = BeginsWithFrame held × (size ≡ stated_size held) × (9 + size ≤ length held)
IsSize (Ok None) held = IsBegun held × (length held < max_frame)
IsSize (Err NoMemory) held = ⊥
IsSize (Err fault) held = IsFaultOf held fault

-- the body of a kind and a payload
abbrev pub body_at : ℕ → List ℕ → Body
body_at kind bytes =
    if kind == 1 then open_session else if kind == 2 then key (from_be_bytes w32 bytes) else if kind == 3 then reset else
    if kind == 4 then close else if kind == 5 then load Refuse bytes else if kind == 6 then ask else load Longest bytes

-- the request with which the bytes begin, if there is a whole frame
abbrev pub request_at : List ℕ → RequestValue
request_at held = record {
  session = from_be_bytes w32 (take 4 (drop 1 held));
  body = body_at (slice_index held 0) (take (stated_size held) (drop 9 held));
}

-- the first request of the held bytes, and the number of bytes of its frame
abbrev pub IsFirst : Result (Option (Request × ℕ)) WireFault → List ℕ → Type 0
IsFirst (Ok (Some first)) held = Fits (request_of first.0) × (held ≡ frame (request_of first.0) ++ drop first.1 held) × (first.1 ≤ length held)
IsFirst (Ok None) held = IsBegun held × (length held < max_frame)
IsFirst (Err fault) held = IsFaultOf held fault
