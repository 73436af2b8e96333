-- Incidents, worked out: a table is loaded in the middle of a sequence, and connections are lost.
use Rattle.std.proofs.Common.{◌≡◌, List, [], ◌∷◌, ◌++◌, refl, true, false}
use Rattle.std.specs.Prelude.{codes, Some, None, replicate, IsTrue}
use Rattle.keysym_core.specs.Names.{KeysymNames}
use Rattle.compose_model.specs.Table.{Definition}
use Rattle.compose_model.specs.Session.{rest}
use Rattle.compose_typing.specs.TypingSession.{start}
use Rattle.compose_typing.specs.Loads.{none, World, Incident, pressed, connected, answered, lost, closed, loaded, texts_in, run_goes_on}

abbrev core : KeysymNames
core = record { names = []; characters = [] }

-- <dead_grave> <dead_acute> <e> : "x" and <dead_acute> <e> : "x"; and the second one alone
abbrev long_way : List Definition
long_way = record { sequence = 0xfe50 ∷ 0xfe51 ∷ 0x65 ∷ []; text = codes "x" } ∷ record { sequence = 0xfe51 ∷ 0x65 ∷ []; text = codes "x" } ∷ []

abbrev short_way : List Definition
short_way = record { sequence = 0xfe51 ∷ 0x65 ∷ []; text = codes "x" } ∷ []

abbrev world : World
world = record { client = start; link = none; table = long_way; session = None; losses = 0 }

-- the grave is typed on a first connection, and the short table is loaded; at the acute the
-- connection is lost, and the session is still open on the next one; then e is typed
abbrev once : List Incident
once =
    pressed 0xfe50 ∷ connected 7 None ∷ replicate 4 answered ++ loaded short_way ∷ pressed 0xfe51 ∷ answered ∷ lost ∷ connected 8 (Some rest)
    ∷ replicate 5 answered ++ pressed 0x65 ∷ answered ∷ answered ∷ []

typed_once : texts_in core world once
    ≡ record { key = 0xfe50; text = []; is_lost = false } ∷ record { key = 0xfe51; text = []; is_lost = false } ∷ record { key = 0x65; text = codes "x"; is_lost = false } ∷ []
typed_once = refl

once_goes_on : IsTrue (run_goes_on long_way [] (texts_in core world once))
once_goes_on = refl

-- the e after an acute is lost twice, and types itself; the next one begins anew
abbrev twice : List Incident
twice =
    pressed 0xfe51 ∷ connected 7 None ∷ replicate 4 answered ++ pressed 0x65 ∷ closed ∷ answered ∷ loaded short_way ∷ connected 8 None ∷ answered ∷ lost
    ∷ pressed 0x65 ∷ connected 9 (Some rest) ∷ replicate 4 answered

typed_twice : texts_in core world twice
    ≡ record { key = 0xfe51; text = []; is_lost = false } ∷ record { key = 0x65; text = codes "e"; is_lost = true } ∷ record { key = 0x65; text = codes "e"; is_lost = false } ∷ []
unfolding lib.Utf8.encode
typed_twice = refl
