use Rattle.std.proofs.Common.{◌≡◌, ◌∷◌, ◌++◌, drop, length, map, string_bytes, codes}
use Rattle.std.specs.List.{list_all}
use Rattle.keysym_core.specs.Keysym.{is_keysym}
use Rattle.compose_cert.specs.Spelling.{counted, keysym_text, ended}
use Rattle.compose_cert.proofs.write.add_fresh.Given as goal

-- the text so far and the remaining lines are the whole, and all keys are keysyms if the remaining
-- ones are
abbrev pub invariant-loop-key : goal.invariant-loop-key
invariant-loop-key l =
    (string_bytes l.text ++ ended (map keysym_text (drop l.key-index l.fresh)) ≡ string_bytes l.fn.text ++ ended (counted (codes "fresh") (length l.fresh) ∷ map keysym_text l.fresh))
    × (list_all is_keysym (drop l.key-index l.fresh) ≡ list_all is_keysym l.fresh)
