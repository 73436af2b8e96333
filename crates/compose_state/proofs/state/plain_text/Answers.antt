use Rattle.std.proofs.Common.{arith}
use Rattle.std.proofs.lemmas.Str.{length-encode, len_utf8_bounds}
use Rattle.compose_state.proofs.state.plain_text.Goals as goal

pub returns-in-Some-clause-few : goal.returns-in-Some-clause-few
returns-in-Some-clause-few c = omega (arith, length-encode c.in-Some.character, len_utf8_bounds c.in-Some.character)
