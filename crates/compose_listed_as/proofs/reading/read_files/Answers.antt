use Rattle.std.proofs.Common.{arith}
use Rattle.compose_listed_as.proofs.Files.{all_looked}
use Rattle.compose_listed_as.proofs.reading.read_files.Goals as goal

pub returns-then-at-len-clause-read : goal.returns-then-at-len-clause-read
returns-then-at-len-clause-read g c =
    all_looked c.args.files.now.holds c.args.reader.now.version c.args.root.now c.loop-at.read.items c.loop-at.at (omega (arith, c.if-at-len.true, c.len.ensures)) c.loop-at.invariant.reached
