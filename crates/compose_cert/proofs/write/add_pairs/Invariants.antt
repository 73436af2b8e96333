use Rattle.std.proofs.Common.{◌≡◌, ◌++◌, drop, map, string_bytes}
use Rattle.std.specs.List.{list_all}
use Rattle.compose_cert.specs.Spelling.{pair_text, are_numbers, ended}
use Rattle.compose_cert.proofs.write.add_pairs.Given as goal

-- the text so far and the remaining lines are the whole, and all pairs are numbers if the remaining
-- ones are
abbrev pub invariant-loop-pair : goal.invariant-loop-pair
invariant-loop-pair l =
    (string_bytes l.text ++ ended (map pair_text (drop l.pair-index l.pairs)) ≡ string_bytes l.fn.text ++ ended (map pair_text l.pairs))
    × (list_all are_numbers (drop l.pair-index l.pairs) ≡ list_all are_numbers l.pairs)
