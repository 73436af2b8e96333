use Rattle.compose_laws.proofs.Compared.{nothing_lost, only_intended_lost, something_lost, unintended_lost}
use Rattle.compose_laws.proofs.law_diff.Goals as goal

pub returns : goal.returns
returns c = record { nothing = nothing_lost; something = something_lost; intended = only_intended_lost; unintended = unintended_lost }
