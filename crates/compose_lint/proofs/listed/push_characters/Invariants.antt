use Rattle.std.proofs.Common.{◌≡◌, ◌++◌, flat_map, string_bytes}
use Rattle.compose_lint.specs.Accepted.{listed_character}
use Rattle.compose_lint.proofs.listed.push_characters.Given as goal

-- the characters so far are appended
abbrev pub invariant-loop-character : goal.invariant-loop-character
invariant-loop-character l = string_bytes l.text ≡ string_bytes l.fn.text ++ flat_map listed_character l.yielded
