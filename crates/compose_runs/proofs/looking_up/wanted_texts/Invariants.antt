use Rattle.std.proofs.Common.{◌≡◌, map, take, string_bytes}
use Rattle.compose_listing.specs.Wanted.{wanted_text}
use Rattle.compose_runs.proofs.looking_up.wanted_texts.Given as goal

-- the texts of the words so far
abbrev pub invariant-loop-word : goal.invariant-loop-word
invariant-loop-word l = map string_bytes l.texts.items ≡ map wanted_text (map (λ word. word.now) (take l.word-index l.words))
