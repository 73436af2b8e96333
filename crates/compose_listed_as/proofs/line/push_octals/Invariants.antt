use Rattle.std.proofs.Common.{◌≡◌, ◌++◌, take, string_bytes}
use Rattle.std.specs.Prelude.{flat_map}
use Rattle.compose_lex.specs.Escape.{octal_escape}
use Rattle.compose_listed_as.proofs.line.push_octals.Given as goal

-- the codes so far
abbrev pub invariant-loop-byte : goal.invariant-loop-byte
invariant-loop-byte l = string_bytes l.lines ≡ string_bytes l.initial.lines ++ flat_map octal_escape (take l.byte-index l.bytes)
