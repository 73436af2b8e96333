use Rattle.std.proofs.Common.{refl}
use Rattle.compose_service_runs.specs.declared.taking.Taking.TheVariants as takings
use Rattle.compose_service_runs.proofs.Following.{loaded, loaded_merged}
use Rattle.compose_service_runs.proofs.law.law_taking.Goals as goal

pub returns : goal.returns
returns c = record { follows = λ a fresh current files file load becomes. loaded a fresh current files (takings.Follows file load) file load becomes refl; merged = loaded_merged }
