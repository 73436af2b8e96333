use Rattle.std.proofs.Common.{◌≡◌, true, length, take}
use Rattle.std.specs.List.{list_all}
use Rattle.keysym_core.specs.Keysym.{is_keysym}
use Rattle.compose_typing_c.proofs.copies.put_numbers.Given as goal

-- the numbers so far are the numbers of the keysyms
abbrev pub invariant-loop-index : goal.invariant-loop-index
invariant-loop-index l = (take l.index l.target ≡ take l.index l.keysyms) × (list_all is_keysym (take l.index l.keysyms) ≡ true) × (length l.target ≡ length l.fn.target)
