use Rattle.std.proofs.Common.{sym, arith}
use Rattle.std.proofs.lemmas.List.{take_all}
use Rattle.compose_diff.proofs.fold.first_three.Goals as goal

pub returns-then-rows-lt3 : goal.returns-then-rows-lt3
returns-then-rows-lt3 c = sym (take_all 3 c.args.rows.now (omega arith))
