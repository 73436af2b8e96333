use Rattle.std.proofs.Common.{◌≡◌, ◌++◌, take, string_bytes}
use Rattle.compose_tool.specs.Answers.{each_untypable}
use Rattle.compose_tool.proofs.making_all.push_each.Given as goal

abbrev pub invariant-loop-character : goal.invariant-loop-character
invariant-loop-character l = string_bytes l.text ≡ string_bytes l.fn.text ++ each_untypable l.old (take l.character-index l.new)
