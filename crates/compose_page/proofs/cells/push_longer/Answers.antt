use Rattle.std.proofs.Common.{string_bytes}
use Rattle.std.specs.Prelude.{codes}
use Rattle.compose_page.specs.Cells as words
use Rattle.compose_page.proofs.After.{after}
use Rattle.compose_page.proofs.cells.push_longer.Goals as goal

pub returns : goal.returns
returns c =
    after c.push_sequence_keys.result (string_bytes c.args.text.now) (codes " waiting for") (string_bytes c.push_str.new.self) (words.sequence_keys c.args.markup c.args.longer.now)
    (string_bytes c.push_sequence_keys.new.text) c.in_ok-push_str.ensures.bytes c.push_sequence_keys.ensures
