use Rattle.std.proofs.Common.{◌≡◌, length}
use Rattle.compose_text.specs.Bytes.{behind}
use Rattle.compose_readers.specs.Files.{is_space}
use Rattle.compose_readers.proofs.xkbcommon.tokens.skip_spaces.Given as goal

abbrev pub invariant-loop-first : goal.invariant-loop-first
invariant-loop-first l = behind is_space l.rest ≡ behind is_space l.fn.bytes

abbrev pub decreases-loop-first : goal.decreases-loop-first
decreases-loop-first l = length l.rest
