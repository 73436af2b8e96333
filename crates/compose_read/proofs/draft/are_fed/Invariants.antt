use Rattle.std.proofs.Common.{◌≡◌, true, take}
use Rattle.std.specs.List.{list_all}
use Rattle.compose_read.specs.Sequence.{is_fed}
use Rattle.compose_read.proofs.draft.are_fed.Given as goal

-- none of the keysyms so far is ignored
abbrev pub invariant-loop-keysym : goal.invariant-loop-keysym
invariant-loop-keysym l = list_all is_fed (take l.keysym-index l.sequence) ≡ true
