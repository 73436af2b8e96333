use Rattle.std.proofs.Common.{sym, subst}
use Rattle.std.specs.Prelude.{Err}
use Rattle.compose_serving.specs.Begin.{BeginReturns, start_over}
use Rattle.compose_serving.proofs.Starts.{refused}
use Rattle.compose_serving.proofs.start.start_with.Goals as goal

pub returns-in-Ok : goal.returns-in-Ok
returns-in-Ok g c = λ read. (c.args.names, c.args.repertoire, read, c.in-Ok.ensures)

pub returns-in-Err : goal.returns-in-Err
returns-in-Err g c = λ read.
    let input = c.args.input.now in
    let start = start_over c.args.sources input.rule input.certificate.now in
    subst (λ fault. BeginReturns input.header.now input.repertoire.now start (Err fault)) (sym c.of_start.ensures)
    (refused input.header.now input.repertoire.now start c.args.names c.args.repertoire read c.in-Err.fault c.in-Err.ensures)
