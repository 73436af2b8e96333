use Rattle.std.proofs.Common.{◌≡◌, true, take}
use Rattle.std.specs.List.{list_all}
use Rattle.keysym_core.specs.Keysym.{is_keysym}
use Rattle.compose_typing_c.proofs.copies.keysyms_of.Given as goal

-- the numbers so far are keysyms, and they are the keysyms collected
abbrev pub invariant-loop-number : goal.invariant-loop-number
invariant-loop-number l = (l.keysyms.items ≡ take l.number-index l.numbers) × (list_all is_keysym (take l.number-index l.numbers) ≡ true)
