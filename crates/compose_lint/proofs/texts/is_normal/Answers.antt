use Rattle.compose_lint.proofs.Normal.{as_in_form}
use Rattle.compose_lint.proofs.texts.is_normal.Goals as goal

pub returns : goal.returns
returns c = as_in_form c.args.text.now c.utf8.text c.is_nfc.result c.is_nfc.ensures.answer
