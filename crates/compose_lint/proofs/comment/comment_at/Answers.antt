use Rattle.std.specs.Prelude.{◌==◌}
use Rattle.compose_lint.proofs.FirstByte.{first_byte}
use Rattle.compose_lint.proofs.comment.comment_at.Goals as goal

pub returns : goal.returns
returns c = first_byte (λ b. b == 35) c.args.bytes.now c.memchr.result c.memchr.ensures
