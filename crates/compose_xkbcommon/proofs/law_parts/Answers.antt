use Rattle.compose_xkbcommon.proofs.Right.{parts_right}
use Rattle.compose_xkbcommon.proofs.law_parts.Goals as goal

pub returns : goal.returns
returns c = λ line parts h. parts_right line parts h
