use Rattle.std.proofs.Common.{string_bytes}
use Rattle.compose_tool.proofs.Untypable.{reported}
use Rattle.compose_tool.proofs.making_all.push_untypable.Goals as goal

pub returns : goal.returns
returns c =
    reported c.args.old.now c.args.character (string_bytes c.args.text.now) (string_bytes c.write.new.self) c.tables_words-tables.result.now c.tables_words-tables.ensures c.in_ok-write.ensures.bytes
