use Rattle.std.proofs.Common.{◌∙◌, sym}
use Rattle.compose_cert.proofs.LineRead.{typing_read}
use Rattle.compose_cert.proofs.certificate_lines.typing_of.Goals as goal

pub returns : goal.returns
returns c =
    let divided = rw c.in_ok-character.ensures.ok_part at c.split_at_byte.ensures.cases in
    let character = sym c.in_ok-character-2.ensures.ok_part ∙ c.character_of.ensures in
    rw c.new.ensures
    (typing_read c.args.text.now c.in_ok-character.character.now c.in_ok-character.keys.now c.in_ok-character-2.character c.in_ok-keys.keys.items c.args.line divided character c.in_ok-keys.ensures)
