use Rattle.compose_bundle.specs.Bundle.{Bundle}
use Rattle.compose_bundle.proofs.OneBundle.{found, are_bytes}
use Rattle.compose_service.specs.Refusals.{of_bundle, of_table, of_certificate}
use Rattle.compose_service.specs.Answered.{with_names}
use Rattle.compose_service.proofs.Answering.{bundle_fault, table_fault, certificate_fault, load_read, raised}
use Rattle.compose_service.proofs.Halves.{not_of_bundle, not_of_table, not_of_certificate, raised_not}
use Rattle.compose_service.proofs.service.read_payload.Goals as goal

pub returns-in_err-bundle-clause-read : goal.returns-in_err-bundle-clause-read
returns-in_err-bundle-clause-read g c = λ now.
    raised (with_names now c.args.names.now) c.args.rule c.args.payload.now g.T.ComposeTable.definitions c.from_residual.result (of_bundle c.in_err-bundle.field-0.0) c.from_residual.ensures.1
    (bundle_fault (with_names now c.args.names.now) c.args.rule c.args.payload.now g.T.ComposeTable.definitions c.in_err-bundle.field-0.0 (are_bytes c.args.payload.now c.type_inv.payload) c.in_err-bundle.ensures)

pub returns-in_err-bundle-clause-no_verdict : goal.returns-in_err-bundle-clause-no_verdict
returns-in_err-bundle-clause-no_verdict g c = raised_not c.from_residual.result (of_bundle c.in_err-bundle.field-0.0) c.from_residual.ensures.1 (not_of_bundle c.in_err-bundle.field-0.0)

pub returns-in_err-table-clause-read : goal.returns-in_err-table-clause-read
returns-in_err-table-clause-read g c = λ now.
    let b : Bundle = record { sources = c.in_ok-bundle.bundle.sources; certificate = c.in_ok-bundle.bundle.certificate.now } in
    raised (with_names now c.args.names.now) c.args.rule c.args.payload.now g.T.ComposeTable.definitions c.from_residual-in_err-table.result (of_table c.in_err-table.field-0.0) c.from_residual-in_err-table.ensures.1
    (table_fault (with_names now c.args.names.now) c.args.rule c.args.payload.now g.T.ComposeTable.definitions b (found c.args.payload.now b c.in_ok-bundle.ensures) c.in_err-table.field-0.0 c.in_err-table.ensures.value)

pub returns-in_err-table-clause-no_verdict : goal.returns-in_err-table-clause-no_verdict
returns-in_err-table-clause-no_verdict g c = raised_not c.from_residual-in_err-table.result (of_table c.in_err-table.field-0.0) c.from_residual-in_err-table.ensures.1 (not_of_table c.in_err-table.field-0.0)

pub returns-in_err-certificate-clause-read : goal.returns-in_err-certificate-clause-read
returns-in_err-certificate-clause-read g c = λ now.
    let b : Bundle = record { sources = c.in_ok-bundle.bundle.sources; certificate = c.in_ok-bundle.bundle.certificate.now } in
    raised (with_names now c.args.names.now) c.args.rule c.args.payload.now g.T.ComposeTable.definitions c.from_residual-in_err-certificate.result
    (of_certificate c.in_err-certificate.field-0.0) c.from_residual-in_err-certificate.ensures.1
    (certificate_fault (with_names now c.args.names.now) c.args.rule c.args.payload.now g.T.ComposeTable.definitions b
    (found c.args.payload.now b c.in_ok-bundle.ensures) c.in_ok-table.table c.in_ok-table.ensures.value c.in_err-certificate.field-0.0 c.in_err-certificate.ensures.exact)

pub returns-in_err-certificate-clause-no_verdict : goal.returns-in_err-certificate-clause-no_verdict
returns-in_err-certificate-clause-no_verdict g c = raised_not c.from_residual-in_err-certificate.result (of_certificate c.in_err-certificate.field-0.0) c.from_residual-in_err-certificate.ensures.1 (not_of_certificate c.in_err-certificate.field-0.0)

pub returns-clause-read : goal.returns-clause-read
returns-clause-read g c = λ now.
    let b : Bundle = record { sources = c.in_ok-bundle.bundle.sources; certificate = c.in_ok-bundle.bundle.certificate.now } in
    load_read (with_names now c.args.names.now) c.args.rule c.args.payload.now g.T.ComposeTable.definitions b
    (found c.args.payload.now b c.in_ok-bundle.ensures) c.in_ok-table.table c.in_ok-table.ensures.value c.in_ok-certificate.certificate c.in_ok-certificate.ensures.exact
