use Rattle.compose_cert.proofs.WordRead.{number_as_read}
use Rattle.compose_cert.proofs.certificate_words.number_of.Goals as goal

pub returns : goal.returns
returns c = number_as_read c.args.word.now _ c.number_in.ensures
