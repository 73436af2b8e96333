use Rattle.compose_cert.proofs.TextRead.{spells_one, spelled_is_read}
use Rattle.compose_cert.proofs.Found.{read_is_spelled}
use Rattle.compose_cert.proofs.law_one_certificate.Goals as goal

pub returns : goal.returns
returns c = record { one = spells_one; read = spelled_is_read; found = read_is_spelled }
