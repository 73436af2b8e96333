use Rattle.compose_check.proofs.input.CheckParts.verdict.Goals as goal

pub returns-clause-promises : goal.returns-clause-promises
returns-clause-promises g c = λ yes. record {
  valid = c.check.ensures.valid yes;
  follows = c.check.ensures.follows yes;
  waits = c.check.ensures.waits yes;
  types = c.check.ensures.types yes;
}
