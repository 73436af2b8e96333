use Rattle.std.proofs.Common.{◌≡◌, ◌∷◌, ◌++◌, drop, length, map, string_bytes, codes}
use Rattle.std.specs.List.{list_all}
use Rattle.compose_cert.specs.Spelling.{counted, typing_text, is_spelled, ended}
use Rattle.compose_cert.proofs.write.add_typings.Given as goal

-- the text so far and the remaining lines are the whole, and all typings are spelled if the
-- remaining ones are
abbrev pub invariant-loop-typing : goal.invariant-loop-typing
invariant-loop-typing l =
    (string_bytes l.text ++ ended (map typing_text (drop l.typing-index l.typings)) ≡ string_bytes l.fn.text ++ ended (counted (codes "typings") (length l.typings) ∷ map typing_text l.typings))
    × (list_all is_spelled (drop l.typing-index l.typings) ≡ list_all is_spelled l.typings)
