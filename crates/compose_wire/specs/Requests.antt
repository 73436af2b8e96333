-- The program's requests as values.
use Rattle.compose_model.specs.declared.Rule.TheVariants.{Refuse, Longest}
use Rattle.compose_wire.specs.Messages.{Body as BodyValue, open_session, key, reset, close, load, ask, Request as RequestValue}
use Rattle.compose_wire.specs.declared.request.Body.{Body}
use Rattle.compose_wire.specs.declared.request.Body.TheVariants.{Open, Key, Reset, Close, Load, LoadLongest, Ask}
use Rattle.compose_wire.specs.declared.request.Request.{Request}

-- an ordinary load refuses overlaps; the rule that takes the longest has a request of its own
abbrev pub body_of : Body → BodyValue
body_of Open = open_session
body_of (Key k) = key k
body_of Reset = reset
body_of Close = close
body_of (Load bytes) = load Refuse bytes
body_of (LoadLongest bytes) = load Longest bytes
body_of Ask = ask

-- the value of a request
abbrev pub request_of : Request → RequestValue
request_of q = record { session = q.session; body = body_of q.body }
