use Rattle.std.proofs.Common.{◌≡◌, ◌∷◌, drop}
use Rattle.compose_model.specs.Certificate.{keys_rise}
use Rattle.compose_fresh.proofs.fresh.are_rising.Given as goal

-- the remaining keysyms are increasing after the last one exactly if all of them are
abbrev pub invariant-loop-keysym : goal.invariant-loop-keysym
invariant-loop-keysym l = keys_rise (l.last ∷ drop l.keysym-index l.rest) ≡ keys_rise l.keysyms
