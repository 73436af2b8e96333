-- Conditions on a certificate, each with the fault that is reported if it is not met; the first one
-- that is not met decides.
use Rattle.std.specs.Prelude.{Bool, not, List, Option}
use Rattle.std.specs.List.{find}
use Rattle.std.specs.Option.{option_map}
use Rattle.compose_fresh.specs.declared.fault.CheckFault.{CheckFault}

-- whether it is met, and the fault if it is not
pub record Condition : Type 0 where
  pub met : Bool
  pub fault : CheckFault

abbrev pub condition : Bool → CheckFault → Condition
condition met fault = record { met = met; fault = fault }

-- the fault of the first condition that is not met
abbrev pub first_unmet : List Condition → Option CheckFault
first_unmet conditions = option_map (λ (d : Condition). d.fault) (find (λ (d : Condition). not d.met) conditions)
