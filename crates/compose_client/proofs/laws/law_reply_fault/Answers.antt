use Rattle.compose_client.proofs.FirstReply.{is_read}
use Rattle.compose_client.proofs.HeadFault.{no_fault, head_stays, never, payload_stays}
use Rattle.compose_client.proofs.laws.law_reply_fault.Goals as goal

pub returns : goal.returns
returns c = record {
  no_fault = no_fault;
  whole = λ bytes b. (is_read bytes b).long;
  stays = head_stays;
  never = never;
  payload_stays = payload_stays;
}
