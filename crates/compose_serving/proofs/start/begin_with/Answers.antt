use Rattle.std.proofs.Common.{sym, subst}
use Rattle.std.specs.Prelude.{Err}
use Rattle.compose_serving.specs.Begin.{BeginReturns, start_over}
use Rattle.compose_serving.specs.declared.start.BeginFault.TheVariants.{Refused}
use Rattle.compose_serving.proofs.Starts.{unread}
use Rattle.compose_serving.proofs.start.begin_with.Goals as goal

pub returns-in-Ok : goal.returns-in-Ok
returns-in-Ok g c = λ names_read. c.start_with.ensures (record { names_read = names_read; repertoire_read = c.in-Ok.ensures })

pub returns-in-Err : goal.returns-in-Err
returns-in-Err g c = λ names_read.
    let input = c.args.input.now in
    let start = start_over c.args.sources input.rule input.certificate.now in
    subst (λ refusal. BeginReturns input.header.now input.repertoire.now start (Err (Refused refusal))) (sym c.of_repertoire.ensures)
    (unread input.header.now input.repertoire.now start c.args.names names_read c.in-Err.fault c.in-Err.ensures)
