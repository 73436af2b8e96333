use Rattle.std.proofs.Common.{◌≡◌, flat_map, map, take}
use Rattle.compose_keys.specs.Words.{words_between}
use Rattle.compose_keys.proofs.words.words_of.Given as goal

-- the words of the parts so far
abbrev pub invariant-loop-part : goal.invariant-loop-part
invariant-loop-part l = map (λ word. word.now) l.words.items ≡ flat_map words_between (map (λ part. part.now) (take l.part-index l.parts))
