use Rattle.std.proofs.Common.{string_bytes}
use Rattle.compose_tool.proofs.Untypable.{more_lines}
use Rattle.compose_tool.proofs.making_all.push_each.Goals as goal

pub loop-character-preserved : goal.loop-character-preserved
loop-character-preserved c =
    more_lines c.args.old.now c.args.new.now c.loop-character.character-index c.character-item.result (string_bytes c.args.text.now) (string_bytes c.loop-character.text)
    (string_bytes c.push_untypable.new.text) c.loop-character-test.true
    c.character-item.is c.loop-character.invariant c.in_ok-push_untypable.ensures
