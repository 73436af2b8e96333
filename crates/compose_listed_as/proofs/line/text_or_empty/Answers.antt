use Rattle.std.proofs.Common.{◌∙◌, []}
use Rattle.compose_listed_as.proofs.Texts.{no_text, text_is}
use Rattle.compose_listed_as.proofs.line.text_or_empty.Goals as goal

pub returns-in-Ok : goal.returns-in-Ok
returns-in-Ok c = let bytes = c.args.bytes.now in let is = c.in-Ok.ensures.cases in is.0 ∙ text_is bytes bytes [] is.1

pub returns-in-Err : goal.returns-in-Err
returns-in-Err c = let bytes = c.args.bytes.now in no_text bytes bytes [] c.in-Err.ensures.cases.0
