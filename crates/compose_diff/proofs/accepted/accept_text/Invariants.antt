use Rattle.std.proofs.Common.{◌≡◌, take, string_bytes}
use Rattle.compose_diff.specs.Accepted.{accept_lines}
use Rattle.compose_diff.proofs.accepted.accept_text.Given as goal

abbrev pub invariant-loop-row : goal.invariant-loop-row
invariant-loop-row l = string_bytes l.text ≡ accept_lines (take l.row-index l.rows)
