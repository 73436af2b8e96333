use Rattle.std.proofs.Common.{◌≡◌, drop}
use Rattle.compose_details.specs.Lines.{header_line}
use Rattle.compose_details.proofs.lines.header_line.Given as goal

-- the result depends on the remaining files alone
abbrev pub invariant-loop-header : goal.invariant-loop-header
invariant-loop-header l = header_line (drop l.header-index l.headers) l.left ≡ header_line l.headers l.line
