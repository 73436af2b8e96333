-- How connections ended, and what was reported of it.
use Rattle.std.specs.Prelude.{◌≡◌, ℕ, ◌==◌, ◌≤◌, List, [], ◌∷◌, ◌++◌, length, filter, Option, Some, None, IsSome, Result, Ok, Err}
use Rattle.compose_many.specs.Connection.{ConnectionState}
use Rattle.compose_many.specs.Ends.{EndsAs}
use Rattle.compose_many.specs.Numbered.{StreamState}
use Rattle.compose_many.specs.Streams.{is_failed}
use Rattle.compose_hub.specs.declared.ends.ConnectionEnd.{ConnectionEnd}
use Rattle.compose_hub.specs.declared.ends.ConnectionEnd.TheVariants.{Served, Stalled, Idle}
use Rattle.compose_hub.specs.declared.client.Limits.{Limits}

-- a report: the connection with this number ended in this way
pub record ReportedEnd : Type 0 where
  pub number : ℕ
  pub how : ConnectionEnd

-- the reported ends, if they are known, and then these
abbrev pub reported_more : Option (List ReportedEnd) → List ReportedEnd → Option (List ReportedEnd)
reported_more None more = None
reported_more (Some ends) more = Some (ends ++ more)

-- the number of bytes that a connection may hold without more room
abbrev pub max_held : ℕ
max_held = 65536

-- a connection in this state, on this stream, can have ended this way: as a turn ends it, so if
-- that is a failed read or write, then the stream is marked as failed; or it held much of a load
-- that didn't come; or it was idle, if there is a limit on that
abbrev pub HasEnded : Limits → ConnectionEnd → StreamState → ConnectionState → Type 0
HasEnded limits (Served end) stream state = EndsAs end stream.left (is_failed stream.read_mark) (is_failed stream.write_mark) state
HasEnded limits Stalled stream state = max_held ≤ length state.held
HasEnded limits Idle stream state = IsSome limits.idle

-- the number of times that the end of this connection was reported
abbrev pub times_reported : ℕ → List ReportedEnd → ℕ
times_reported number ends = length (filter (λ e. e.number == number) ends)

-- the reported ends, if they are known, and this end, if there is one
abbrev pub reported_end : Option (List ReportedEnd) → Option (ℕ × ConnectionEnd) → Option (List ReportedEnd)
reported_end reported None = reported
reported_end reported (Some e) = reported_more reported (record { number = e.0; how = e.1 } ∷ [])

-- an end was reported, if there was one; if that failed, nothing was reported
abbrev pub ReportsEnd : {X Y : Type 0} → Option (List ReportedEnd) → Option (List ReportedEnd) → Option (ℕ × ConnectionEnd) → Result X Y → Type 0
ReportsEnd reported reported' None (Ok x) = reported' ≡ reported
ReportsEnd reported reported' None (Err y) = ⊥
ReportsEnd reported reported' (Some e) (Ok x) = reported' ≡ reported_more reported (record { number = e.0; how = e.1 } ∷ [])
ReportsEnd reported reported' (Some e) (Err y) = reported' ≡ reported
