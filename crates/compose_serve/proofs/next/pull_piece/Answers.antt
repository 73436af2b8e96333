use Rattle.std.proofs.Common.{◌≡◌, ◌++◌, length, take, arith}
use Rattle.std.proofs.lemmas.List.{length-take-le}
use Rattle.compose_serve.proofs.Known.{SameStream-kept, behind-some}
use Rattle.compose_serve.proofs.next.pull_piece.Goals as goal

pub returns-in-Err-feed-clause-so : goal.returns-in-Err-feed-clause-so
returns-in-Err-feed-clause-so g c =
    let count = c.in-Ok.count in
    let piece = c.pull.new.piece in
    let bytes = take count piece in
    let taken : length bytes ≡ count = length-take-le count piece c.in-Ok.ensures.1.0 in (
      c.args.feeder.now
          ++ bytes,
      SameStream-kept c.args.feeder.now bytes (g.R.Pull.left c.args.reader.now) (g.R.Pull.left c.pull.new.self) c.in-Ok.ensures.0.0,
      behind-some c.args.feeder.now bytes (omega arith),
    )
