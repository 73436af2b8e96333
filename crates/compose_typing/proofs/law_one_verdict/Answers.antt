use Rattle.compose_typing.proofs.OneVerdict.{one_verdict}
use Rattle.compose_typing.proofs.law_one_verdict.Goals as goal

pub returns : goal.returns
returns c = one_verdict
