use Rattle.compose_laws.proofs.Checked.{checked, checked_but, rejected, rejected_but, prints_yes}
use Rattle.compose_laws.proofs.law_check.Goals as goal

pub returns : goal.returns
returns c = record { promised = checked; rejected = rejected; fresh = checked_but; rejected_fresh = rejected_but; prints = prints_yes }
