use Rattle.compose_bundle.proofs.OneBundle.{one, found, only}
use Rattle.compose_bundle.proofs.law.law_one_bundle.Goals as goal

pub returns : goal.returns
returns c = record { one = one; found = found; only = only }
