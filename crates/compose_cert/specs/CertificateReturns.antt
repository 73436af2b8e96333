-- What the readers return, unless memory runs out.
use Rattle.std.specs.Prelude.{◌≡◌, Result, Ok, Err}
use Rattle.compose_model.specs.Certificate.{Certificate, Repertoire}
use Rattle.compose_cert.specs.declared.CertFault.{CertFault}
use Rattle.compose_cert.specs.declared.CertFault.TheVariants as cert_faults
use Rattle.compose_cert.specs.declared.RepertoireFault.{RepertoireFault}
use Rattle.compose_cert.specs.declared.RepertoireFault.TheVariants as repertoire_faults

abbrev pub CertificateReturns : Result Certificate CertFault → Result Certificate CertFault → Type 0
CertificateReturns (Ok c) expected = expected ≡ Ok c
CertificateReturns (Err cert_faults.NoMemory) expected = Unit {0}
CertificateReturns (Err e) expected = expected ≡ Err e

abbrev pub RepertoireReturns : Result Repertoire RepertoireFault → Result Repertoire RepertoireFault → Type 0
RepertoireReturns (Ok r) expected = expected ≡ Ok r
RepertoireReturns (Err repertoire_faults.NoMemory) expected = Unit {0}
RepertoireReturns (Err e) expected = expected ≡ Err e
