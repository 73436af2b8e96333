-- The verdict on a certificate.
use Rattle.std.specs.Prelude.{Option, Some, None}
use Rattle.compose_fresh.specs.declared.fault.CheckFault.{CheckFault}
use Rattle.compose_check.specs.declared.verdict.Verdict.{Verdict}
use Rattle.compose_check.specs.declared.verdict.Verdict.TheVariants.{Yes, No}

-- yes if it has no fault
abbrev pub verdict_of : Option CheckFault → Verdict
verdict_of None = Yes
verdict_of (Some fault) = No fault
