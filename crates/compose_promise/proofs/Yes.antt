-- From the verdict yes to the promises.
use Rattle.std.proofs.Common.{◌≡◌, refl}
use Rattle.std.specs.Prelude.{true, Option, Some, None, Ok}
use Rattle.compose_model.specs.Table.{is_prefix_free}
use Rattle.compose_model.proofs.Lift.{lift}
use Rattle.compose_model.proofs.Bound.{bound_waits}
use Rattle.compose_fresh.specs.declared.fault.CheckFault.{CheckFault}
use Rattle.compose_check.specs.Conditions.{fault_of}
use Rattle.compose_check.specs.Input.{Input, Parts, parts_of, verdict_on}
use Rattle.compose_check.specs.Verdict.{verdict_of}
use Rattle.compose_check.specs.declared.verdict.Verdict.TheVariants as verdicts
use Rattle.compose_check.proofs.Valid.{valid_from_none}
use Rattle.compose_promise.specs.Kept.{IsKept}
use Rattle.compose_promise.proofs.Read.{parts_free}
use Rattle.compose_promise.proofs.Runs.{keeps}

-- a verdict yes comes of no fault
no_fault : (found : Option CheckFault) → verdict_of found ≡ verdicts.Yes → found ≡ None
no_fault None h = refl
no_fault (Some fault) h = absurd (cc)

-- what the verdict yes promises, if the new table has no overlap
kept_if_free : (p : Parts) → is_prefix_free p.new ≡ true → verdict_on p ≡ verdicts.Yes → IsKept p
kept_if_free p free h =
    let valid = valid_from_none p.names p.old p.new p.repertoire p.certificate (no_fault (fault_of p.names p.old p.new p.repertoire p.certificate) h) in
    record {
      valid = valid;
      keeps = keeps p.names p.certificate.fresh p.old p.new (lift p.names p.certificate.fresh p.old p.new p.certificate.pairs free valid.simulates);
      waits = bound_waits p.new p.certificate.bound valid.bounded;
      types = valid.types;
    }

pub kept : (input : Input) (p : Parts) → parts_of input ≡ Ok p → verdict_on p ≡ verdicts.Yes → IsKept p
kept input p read h = kept_if_free p (parts_free input p read) h
