use Rattle.compose_readers.proofs.Takings.{one_taken, free_taken}
use Rattle.compose_readers.proofs.law_taken.Goals as goal

pub returns-clause-one : goal.returns-clause-one
returns-clause-one c = λ es i j a b t u same. one_taken es i j a b t u same

pub returns-clause-free : goal.returns-clause-free
returns-clause-free c = λ es i j a b t u. free_taken es i j a b t u
