use Rattle.std.proofs.Common.{string_bytes}
use Rattle.std.specs.Prelude.{codes}
use Rattle.compose_page.specs.Cells as words
use Rattle.compose_page.proofs.After.{after}
use Rattle.compose_page.proofs.cells.push_new_text.Goals as goal

pub returns : goal.returns
returns c =
    after c.push_entry_text.result (string_bytes c.args.text.now) (codes " changed to") (string_bytes c.push_str.new.self) (words.entry_text c.args.markup c.args.entry.now)
    (string_bytes c.push_entry_text.new.text) c.in_ok-push_str.ensures.bytes c.push_entry_text.ensures
