use Rattle.compose_check.specs.Input.{parts_of}
use Rattle.compose_check.specs.CheckReturns.{input_of}
use Rattle.compose_check.proofs.PartsRead.{of_input, parts_are}
use Rattle.compose_check.proofs.input.check_bytes.Goals as goal

pub input_fault-requires : goal.input_fault-requires
input_fault-requires g c =
    let input = c.args.input.now in
    let given = input_of input in
    of_input c.in-Err.refusal (parts_of given)
    (parts_are input.header.now given.migration.old given.migration.new input.repertoire.now input.certificate.now) c.in-Err.ensures
