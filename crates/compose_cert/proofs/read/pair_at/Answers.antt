use Rattle.std.proofs.Common.{◌∙◌, sym}
use Rattle.compose_cert.specs.Reading.{pair_of}
use Rattle.compose_cert.proofs.LineRead.{line_read}
use Rattle.compose_cert.proofs.read.pair_at.Goals as goal

pub returns : goal.returns
returns c =
    line_read pair_of c.args.line c.args.bytes.now c.in_ok-text.text.now c.in_ok-text.rest.now c.in_ok-pair.pair c.in_ok-text.ensures.ok (sym c.pair_of.ensures ∙ c.in_ok-pair.ensures.ok_part)
