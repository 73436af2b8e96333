use Rattle.std.proofs.Common.{◌≡◌, ◌++◌, take, string_bytes}
use Rattle.compose_messages.specs.Overlaps.{events}
use Rattle.compose_messages.proofs.overlap.push_events.Given as goal

-- the events so far are added
abbrev pub invariant-loop-keysym : goal.invariant-loop-keysym
invariant-loop-keysym l = string_bytes l.text ≡ string_bytes l.fn.text ++ events l.names (take l.keysym-index l.sequence)
