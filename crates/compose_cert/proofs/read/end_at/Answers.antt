use Rattle.std.proofs.Common.{sym, length}
use Rattle.compose_cert.proofs.Numerals.{positive}
use Rattle.compose_cert.proofs.LineRead.{end_missing}
use Rattle.compose_cert.proofs.read.end_at.Goals as goal

pub returns : goal.returns
returns c _ = end_missing c.args.line c.args.bytes.now (positive (length c.args.bytes.now) (sym c.if-is_empty.ensures))
