use Rattle.std.proofs.Common.{◌≡◌, drop}
use Rattle.compose_lint.specs.FileLines.{has_spaced_name_after}
use Rattle.compose_lint.proofs.file_lines.has_spaced_name_after.Given as goal

-- the answer for the remaining bytes is that for all
abbrev pub invariant-loop-byte : goal.invariant-loop-byte
invariant-loop-byte l = has_spaced_name_after l.before (drop l.byte-index l.line) ≡ has_spaced_name_after l.first l.line
