use Rattle.std.proofs.Common.{◌∷◌, take, flat_map}
use Rattle.std.specs.Fmt.{HasWritten, IsPlainFormatter}
use Rattle.keysym_core.specs.Printed.{shown_keysym}
use Rattle.keysym_core.proofs.shown.KeyListDisplay.fmt.Given as goal

-- the keysyms so far are written, each one but the first after a comma
abbrev pub invariant-loop-key : goal.invariant-loop-key
invariant-loop-key g l =
    IsPlainFormatter l.initial.f → HasWritten g.W.Write.write_str_gives l.initial.f (flat_map (λ k. 44 ∷ shown_keysym k) (take l.key-index l.others)) l.f
