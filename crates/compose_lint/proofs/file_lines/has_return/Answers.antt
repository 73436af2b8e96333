use Rattle.std.proofs.Common.{sym}
use Rattle.compose_lint.proofs.Spaced.{no_return}
use Rattle.compose_lint.proofs.file_lines.has_return.Goals as goal

pub returns-in-None : goal.returns-in-None
returns-in-None c = sym (no_return c.args.line.now c.args.written.now c.in-None.ensures)
