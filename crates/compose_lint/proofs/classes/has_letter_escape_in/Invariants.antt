use Rattle.std.proofs.Common.{◌≡◌, false, drop}
use Rattle.compose_lint.specs.Readers.{has_letter_escape_from}
use Rattle.compose_lint.proofs.classes.has_letter_escape_in.Given as goal

-- the answer for the remaining bytes is that for all
abbrev pub invariant-loop-byte : goal.invariant-loop-byte
invariant-loop-byte l = has_letter_escape_from l.taken (drop l.byte-index l.raw) ≡ has_letter_escape_from false l.raw
