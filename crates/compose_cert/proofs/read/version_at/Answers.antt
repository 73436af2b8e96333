use Rattle.std.proofs.Common.{◌∙◌, sym}
use Rattle.compose_cert.specs.Reading.{version_of}
use Rattle.compose_cert.proofs.LineRead.{line_read}
use Rattle.compose_cert.proofs.read.version_at.Goals as goal

pub returns : goal.returns
returns c =
    line_read version_of 1 c.args.bytes.now c.in_ok-text.text.now c.in_ok-text.rest.now c.in_ok-version.version c.in_ok-text.ensures.ok (sym c.version_of.ensures ∙ c.in_ok-version.ensures.ok_part)
