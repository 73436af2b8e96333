use Rattle.std.proofs.Common.{◌≡◌, length}
use Rattle.compose_readers.proofs.xkbcommon.Reader.parts.Given as goal

-- each part so far is a definition
abbrev pub invariant-loop-index : goal.invariant-loop-index
invariant-loop-index l = length l.definitions.items ≡ l._index
