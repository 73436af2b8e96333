use Rattle.std.proofs.Common.{◌≡◌, ◌++◌, map, take}
use Rattle.std.specs.Prelude.{filter}
use Rattle.compose_keys.specs.Words.{is_word}
use Rattle.compose_keys.proofs.words.push_pieces.Given as goal

-- the words of the pieces so far
abbrev pub invariant-loop-piece : goal.invariant-loop-piece
invariant-loop-piece l = map (λ word. word.now) l.words.items ≡ map (λ word. word.now) l.fn.words.items ++ filter is_word (map (λ piece. piece.now) (take l.piece-index l.pieces))
