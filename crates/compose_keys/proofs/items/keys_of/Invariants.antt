use Rattle.std.proofs.Common.{◌≡◌, flat_map, map, take}
use Rattle.compose_keys.specs.Keys.{word_keys}
use Rattle.compose_keys.proofs.items.keys_of.Given as goal

-- the keys of the words so far
abbrev pub invariant-loop-word : goal.invariant-loop-word
invariant-loop-word l = map (λ key. key.now) l.keys.items ≡ flat_map word_keys (map (λ word. word.now) (take l.word-index l.words))
