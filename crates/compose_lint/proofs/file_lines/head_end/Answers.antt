use Rattle.compose_lint.specs.FileLines.{begins_string_or_comment}
use Rattle.compose_lint.proofs.FirstByte.{first_byte}
use Rattle.compose_lint.proofs.file_lines.head_end.Goals as goal

pub returns : goal.returns
returns c = first_byte begins_string_or_comment c.args.line.now c.memchr2.result c.memchr2.ensures
