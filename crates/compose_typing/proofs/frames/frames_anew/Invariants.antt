use Rattle.std.proofs.Common.{◌≡◌, ◌+◌, ◌*◌, length, take}
use Rattle.compose_typing.specs.TypingSession.{sent, typed_anew}
use Rattle.compose_typing.proofs.frames.frames_anew.Given as goal

-- a Reset and the keys so far
abbrev pub invariant-loop-index : goal.invariant-loop-index
invariant-loop-index l = (l.frames ≡ sent l.session (typed_anew (take l.index l.pending))) × (length l.frames ≡ 9 + 13 * l.index)
