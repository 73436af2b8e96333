use Rattle.std.proofs.Common.{◌≡◌, drop}
use Rattle.compose_model.specs.Step.{pending, pending_from}
use Rattle.compose_state.proofs.state.state_after.Given as goal

-- the remaining keysyms leave the same pending as all of them
abbrev pub invariant-loop-keysym : goal.invariant-loop-keysym
invariant-loop-keysym g l = pending_from (g.T.ComposeTable.definitions l.table) l.state.pending (drop l.keysym-index l.keysyms) ≡ pending (g.T.ComposeTable.definitions l.table) l.keysyms
