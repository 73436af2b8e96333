use Rattle.std.proofs.Common.{◌∙◌}
use Rattle.compose_cert.proofs.WordRead.{keysym_as_read}
use Rattle.compose_cert.proofs.certificate_words.keysym_of.Goals as goal

pub returns : goal.returns
returns c = c.new.ensures.some c.in_ok-number.ensures.0 ∙ keysym_as_read c.args.word.now _ c.in_ok-number.ensures
