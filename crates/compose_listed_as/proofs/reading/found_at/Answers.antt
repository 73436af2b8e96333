use Rattle.std.proofs.lemmas.Str.{IsUtf8-from_is_utf8}
use Rattle.compose_listed_as.proofs.reading.found_at.Goals as goal

pub returns-in_default-clause-found : goal.returns-in_default-clause-found
returns-in_default-clause-found g c = λ is. absurd (c.in_default.ensures.cases.0 (IsUtf8-from_is_utf8 c.args.path.now is))
