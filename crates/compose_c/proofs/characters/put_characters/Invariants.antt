use Rattle.std.proofs.Common.{◌≡◌, length, map, take}
use Rattle.compose_c.specs.Characters.{character_number}
use Rattle.compose_c.proofs.characters.put_characters.Given as goal

-- the characters so far are put
abbrev pub invariant-loop-index : goal.invariant-loop-index
invariant-loop-index l = (take l.index l.target ≡ map (character_number l.names) (take l.index l.keysyms)) × (length l.target ≡ length l.fn.target)
