use Rattle.std.proofs.Common.{rules}
use Rattle.compose_explaining.proofs.explaining.brief_all.Goals as goal

pub returns : goal.returns
returns g c = let e = c.in_ok-answer.ensures in (e.0, e.1, record { answered = e.2; nothing = search rules })
