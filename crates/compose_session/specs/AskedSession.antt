-- The requests of a command (this project's profile).
use Rattle.std.specs.Prelude.{◌≡◌, ◌<◌, ◌≤◌, ℕ, List, [], ◌∷◌, ◌++◌, length, map, if◌then◌else◌, Result, Ok, Err}
use Rattle.compose_model.specs.declared.Rule.{Rule}
use Rattle.compose_bundle.specs.Bundle.{Bundle, BundleFits, IsBundle, bundle_bytes}
use Rattle.compose_bundle.specs.Written.{max_payload}
use Rattle.compose_bundle.specs.declared.BundleFault.{BundleFault}
use Rattle.compose_bundle.specs.declared.BundleFault.TheVariants as bundle_faults
use Rattle.compose_wire.specs.Messages.{load}
use Rattle.compose_wire.specs.Requests.{request_of}
use Rattle.compose_wire.specs.declared.request.Body.{Body}
use Rattle.compose_wire.specs.declared.request.Body.TheVariants.{Open, Key, Reset, Close, Ask}
use Rattle.compose_wire.specs.declared.request.Request.{Request}
use Rattle.compose_session.specs.declared.asked.AskedSession.{AskedSession}

-- a request of the session
abbrev pub asks : ℕ → Body → Request
asks session body = record { session = session; body = body }

-- the requests, in the order in which they are sent
abbrev pub bodies_of : AskedSession → List Body
bodies_of asked =
    (if asked.open then Open ∷ [] else []) ++ (if asked.reset then Reset ∷ [] else []) ++ map (λ k. Key k) asked.keys.now
    ++ (if asked.ask then Ask ∷ [] else []) ++ (if asked.close then Close ∷ [] else [])

-- the request is a load by this rule, whose payload is the bundle; or the bundle doesn't fit into a
-- load; or memory runs out
abbrev pub LoadReturns : Result Request BundleFault → Rule → Bundle → Type 0
LoadReturns (Ok request) rule b =
    (payload : List ℕ) × IsBundle payload b × (length payload ≤ max_payload) × (request_of request ≡ record { session = 0; body = load rule payload })
LoadReturns (Err bundle_faults.TooLarge) rule b = BundleFits b → max_payload < length (bundle_bytes b)
LoadReturns (Err bundle_faults.Form) rule b = ⊥
LoadReturns (Err bundle_faults.NoMemory) rule b = Unit {0}
