-- The faults of `lint` that other faults become.
use Rattle.compose_migration.specs.declared.refusal.Refusal.TheVariants.{NoMemory as RefusalNoMemory}
use Rattle.compose_diff.specs.declared.accepted.AcceptFault.{AcceptFault}
use Rattle.compose_diff.specs.declared.accepted.AcceptFault.TheVariants.{NoMemory}
use Rattle.compose_lint.specs.declared.asking.LintFault.{LintFault}
use Rattle.compose_lint.specs.declared.asking.LintFault.TheVariants.{Input, Accept}

abbrev pub accept_raised : AcceptFault → LintFault
accept_raised NoMemory = Input RefusalNoMemory
accept_raised fault = Accept fault
