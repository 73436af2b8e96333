use Rattle.std.proofs.Common.{sym}
use Rattle.compose_lint.proofs.Spaced.{no_return_in_include}
use Rattle.compose_lint.proofs.file_lines.has_return_in_include.Goals as goal

pub returns-in-None : goal.returns-in-None
returns-in-None c = sym (no_return_in_include c.args.line.now c.in-None.ensures)
