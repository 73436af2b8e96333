use Rattle.compose_lex.proofs.TextChecks.{right_text}
use Rattle.compose_lex.proofs.texts.push_plain.Goals as goal

pub returns : goal.returns
returns c = (c.args.raw.now, right_text c.args.raw.now tt c.in_ok-check_len.ensures.exact c.utf8.raw, c.in_ok-push_str.ensures.bytes)
