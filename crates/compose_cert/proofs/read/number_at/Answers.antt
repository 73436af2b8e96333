use Rattle.std.proofs.Common.{◌∙◌, sym}
use Rattle.compose_cert.specs.Reading.{number_after}
use Rattle.compose_cert.proofs.LineRead.{line_read}
use Rattle.compose_cert.proofs.read.number_at.Goals as goal

pub returns-clause-says : goal.returns-clause-says
returns-clause-says c name e =
    line_read (number_after name) c.args.line c.args.bytes.now c.in_ok-text.text.now c.in_ok-text.rest.now c.in_ok-number.number c.in_ok-text.ensures.ok
    (sym (c.number_after.ensures name e) ∙ c.in_ok-number.ensures.ok_part)
