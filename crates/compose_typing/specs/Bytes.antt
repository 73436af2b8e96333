-- A client with the bytes that it received on its connection.
use Rattle.std.specs.Prelude.{◌≡◌, ℕ, List, ◌++◌, drop, Option, Some}
use Rattle.compose_typing.specs.declared.action.Action.{Action}
use Rattle.compose_typing.specs.TypingSession.{Client, Outcome}

-- the bytes are those of replies that were not read yet
pub record TypingSession : Type 0 where
  pub client : Client
  pub held : List ℕ

-- an event leads to this outcome, and these bytes are held then
abbrev pub Becomes : Outcome → List ℕ → TypingSession → Action → Type 0
Becomes o held new action = (new ≡ record { client = o.client; held = held }) × (action ≡ o.action)

-- a piece of bytes leads to this outcome; what is held then, with the bytes after those that were
-- taken, are these bytes
abbrev pub Receives : Outcome → List ℕ → List ℕ → TypingSession → ℕ × Option Action → Type 0
Receives o more piece new result = (new.client ≡ o.client) × (new.held ++ drop result.0 piece ≡ more) × (result.1 ≡ Some o.action)
