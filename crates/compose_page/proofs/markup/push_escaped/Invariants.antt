use Rattle.std.proofs.Common.{◌≡◌, ◌++◌, flat_map, string_bytes}
use Rattle.compose_page.specs.Markup.{character_text}
use Rattle.compose_page.proofs.markup.push_escaped.Given as goal

-- the characters so far are appended
abbrev pub invariant-loop-character : goal.invariant-loop-character
invariant-loop-character l = string_bytes l.text ≡ string_bytes l.fn.text ++ flat_map (character_text l.markup) l.yielded
