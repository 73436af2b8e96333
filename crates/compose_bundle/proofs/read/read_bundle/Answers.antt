use Rattle.compose_bundle.proofs.OneBundle.{are_bytes, read_as_decoded}
use Rattle.compose_bundle.proofs.read.read_bundle.Goals as goal

pub returns : goal.returns
returns c = read_as_decoded c.args.payload.now (are_bytes c.args.payload.now c.type_inv.payload) (λ x. record { sources = x.sources; certificate = x.certificate.now }) c.decode.result c.decode.ensures
