use Rattle.compose_client.proofs.OneReply.{one_reply}
use Rattle.compose_client.proofs.laws.law_one_reply.Goals as goal

pub returns : goal.returns
returns c = one_reply
