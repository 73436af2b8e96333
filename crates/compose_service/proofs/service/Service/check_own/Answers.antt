use Rattle.std.proofs.Common.{◌∙◌, sym}
use Rattle.compose_cert.specs.Reading.{certificate_of}
use Rattle.compose_service.proofs.Starting.{begins, begins_not}
use Rattle.compose_service.proofs.service.Service.check_own.Goals as goal

pub returns-in-Yes : goal.returns-in-Yes
returns-in-Yes g c = (
  c.in_ok-certificate.certificate,
  begins c.args.names.now c.args.repertoire.now (certificate_of c.args.certificate.now) (g.T.ComposeTable.definitions c.args.table.now) c.in_ok-certificate.certificate
      c.in_ok-certificate.ensures.exact (sym c.in-Yes.is ∙ c.check.ensures.exact),
  c.check.ensures.waits c.in-Yes.is,
  c.check.ensures.types c.in-Yes.is,
)

pub returns : goal.returns
returns g c =
    rw c.from.ensures
    (begins_not c.args.names.now c.args.repertoire.now (certificate_of c.args.certificate.now) (g.T.ComposeTable.definitions c.args.table.now) c.in_ok-certificate.certificate
    c.in_ok-certificate.ensures.exact c.in-No.fault (sym c.in-No.is ∙ c.check.ensures.exact))
