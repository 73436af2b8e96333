use Rattle.std.proofs.Common.{◌≡◌, take}
use Rattle.compose_state.proofs.pending.Pending.of.Given as goal

-- those before are there
abbrev pub invariant-loop-keysym : goal.invariant-loop-keysym
invariant-loop-keysym l = l.pending ≡ take l.keysym-index l.keysyms
