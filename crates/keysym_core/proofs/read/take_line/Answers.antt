use Rattle.std.proofs.Common.{sym, subst}
use Rattle.keysym_core.specs.Header.{ChangeReturns}
use Rattle.keysym_core.proofs.Headers.{line-text, line-not_utf8}
use Rattle.keysym_core.proofs.read.take_line.Goals as goal

pub returns-in-Ok : goal.returns-in-Ok
returns-in-Ok c = subst (ChangeReturns c.take_text.result c.take_text.new.table) (sym (line-text c.args.table.now c.args.line c.args.bytes.now c.in-Ok.ensures.cases.1)) c.take_text.ensures

pub returns-in-Err : goal.returns-in-Err
returns-in-Err c = line-not_utf8 c.args.table.now c.args.line c.args.bytes.now c.in-Err.ensures.cases.0
