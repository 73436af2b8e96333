use Rattle.compose_cert.proofs.Found.{found_from_exact, only_from_exact}
use Rattle.compose_cert.proofs.certificate.Certificate.read.Goals as goal

pub returns-clause-found : goal.returns-clause-found
returns-clause-found c = found_from_exact c.args.bytes.now c.read_lines.result c.read_lines.ensures

pub returns-clause-only : goal.returns-clause-only
returns-clause-only c d s = only_from_exact c.args.bytes.now d c.read_lines.result s c.read_lines.ensures
