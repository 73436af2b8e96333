-- What a C program reads in an action.
use Rattle.std.specs.Prelude.{◌≡◌, ℕ, ◌≤◌, List, ◌++◌, take, drop}
use Rattle.compose_typing.specs.declared.action.KeyVerdict.{KeyVerdict}
use Rattle.compose_typing.specs.declared.action.KeyVerdict.TheVariants.{Pass, Take, Commit}
use Rattle.compose_typing.specs.declared.action.Action.{Action}
use Rattle.compose_typing.specs.declared.action.Action.TheVariants.{Wait, Send, Connect, Tell, Abandon, Close}
use Rattle.compose_typing.specs.TypingSession.{Outcome}
use Rattle.compose_typing_c.specs.declared.action.ActionRecord.{ActionRecord}
use Rattle.compose_typing_c.specs.declared.client.ClientRecord.{ClientRecord}
use Rattle.compose_typing_c.specs.Clients.{client_of, held_of, typing_of}

-- the numbers say this verdict; a text has its bytes at the front
abbrev pub SaysVerdict : ActionRecord → KeyVerdict → Type 0
SaysVerdict a Pass = a.verdict ≡ 0
SaysVerdict a Take = a.verdict ≡ 1
SaysVerdict a (Commit text) = (a.verdict ≡ 2) × (a.text_length ≤ 255) × (take a.text_length a.text ≡ text)

-- the numbers say this action; what is sent has its bytes at the front
abbrev pub Says : ActionRecord → Action → Type 0
Says a Wait = a.kind ≡ 0
Says a (Send bytes) = (a.kind ≡ 1) × (a.byte_count ≤ 448) × (take a.byte_count a.bytes ≡ bytes)
Says a Connect = a.kind ≡ 2
Says a (Tell verdict) = (a.kind ≡ 3) × SaysVerdict a verdict
Says a Abandon = a.kind ≡ 4
Says a Close = a.kind ≡ 5

-- an event leads to this outcome, and these bytes are held then
abbrev pub Becomes : Outcome → List ℕ → ClientRecord → ActionRecord → Type 0
Becomes o held new action = (typing_of new ≡ record { client = o.client; held = held }) × Says action o.action

-- a piece of bytes leads to this outcome; what is held then, with the bytes after those that were
-- taken, are these bytes
abbrev pub Receives : Outcome → List ℕ → List ℕ → ClientRecord → ℕ → ActionRecord → Type 0
Receives o more piece new used action = (client_of new ≡ o.client) × (held_of new ++ drop used piece ≡ more) × Says action o.action
