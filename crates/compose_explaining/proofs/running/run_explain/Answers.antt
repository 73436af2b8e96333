use Rattle.std.proofs.Common.{refl, inl}
use Rattle.compose_input.specs.declared.fault.Fault.TheVariants.{NoMemory}
use Rattle.compose_given.proofs.Failing.{handed}
use Rattle.compose_explaining.specs.Explains.{FailsExplain}
use Rattle.compose_explaining.proofs.Wanting.{two}
use Rattle.compose_explaining.proofs.running.run_explain.Goals as goal

pub returns-clause-outcome : goal.returns-clause-outcome
returns-clause-outcome g c = record {
  wanted = c.wanted_by-wanted.result;
  wants = c.wanted_by-wanted.ensures refl;
  read = c.in_ok-read.read;
  are_parts = c.in_ok-read.ensures.read;
  is = c.in_ok-explain_read.ensures;
}

pub returns-in_err-read-clause-fault : goal.returns-in_err-read-clause-fault
returns-in_err-read-clause-fault g c =
    handed (FailsExplain c.args.files.now.holds c.args.environment.now c.args.asked.now) c.from_residual.result c.in_err-read.field-0.0 c.from_residual.ensures.1
    (record { wanted = c.wanted_by-wanted.result; wants = c.wanted_by-wanted.ensures refl; fails = c.in_err-read.ensures.fault })

pub returns-in_err-explain_read-clause-fault : goal.returns-in_err-explain_read-clause-fault
returns-in_err-explain_read-clause-fault g c =
    handed (FailsExplain c.args.files.now.holds c.args.environment.now c.args.asked.now) c.from_residual-in_err-explain_read.result NoMemory c.from_residual-in_err-explain_read.ensures.1
    (record { wanted = c.wanted_by-wanted.result; wants = c.wanted_by-wanted.ensures refl; fails = inl refl })

pub explain_read-requires : goal.explain_read-requires
explain_read-requires g c = two c.args.files.now.holds c.args.environment.now c.wanted_by-wanted.result.tables.now c.in_ok-read.read.tables.items _ _ (c.wanted_by-wanted.ensures refl).tables c.in_ok-read.ensures.read.are_tables
