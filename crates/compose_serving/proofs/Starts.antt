-- How a service begins if it does not start.
use Rattle.std.proofs.Common.{◌≡◌, ℕ, List}
use Rattle.std.specs.Prelude.{Result, Ok, Err}
use Rattle.keysym_core.specs.Names.{KeysymNames}
use Rattle.keysym_core.specs.Header.{names_of}
use Rattle.compose_model.specs.Certificate.{Repertoire}
use Rattle.compose_cert.specs.Repertoire.{repertoire_of}
use Rattle.compose_cert.specs.CertificateReturns.{RepertoireReturns}
use Rattle.compose_cert.specs.declared.RepertoireFault.{RepertoireFault}
use Rattle.compose_cert.specs.declared.RepertoireFault.TheVariants as repertoire_faults
use Rattle.compose_cert.specs.declared.CertFault.{CertFault}
use Rattle.compose_cert.specs.declared.CertFault.TheVariants as cert_faults
use Rattle.compose_service.specs.Start.{Begun, NoStart, without_certificate, StartReturns, IsCertificateFault}
use Rattle.compose_service.specs.declared.service.StartFault.{StartFault}
use Rattle.compose_service.specs.declared.service.StartFault.TheVariants as start_faults
use Rattle.compose_serving.specs.Begin.{Start, AreRead, BeginReturns, repertoire_refused, start_refused}
use Rattle.compose_serving.specs.declared.start.BeginFault.TheVariants.{Refused}

-- a fault of a certificate that is reported is not that memory ran out
certificate_message : (fault : CertFault) (expected : Result Begun NoStart) → IsCertificateFault fault expected → expected ≡ Err (without_certificate fault)
certificate_message (cert_faults.NotText line) expected h = h
certificate_message cert_faults.TooLarge expected h = h
certificate_message cert_faults.NoMemory expected h = absurd h

-- a start that is refused is how the service begins
pub refused : (header bytes : List ℕ) (start : Start) (names : KeysymNames) (repertoire : Repertoire) → AreRead header bytes names repertoire
    → (fault : StartFault) → StartReturns names repertoire (Err fault) (start names repertoire) → BeginReturns header bytes start (Err (start_refused fault))
refused header bytes start names repertoire read (start_faults.Table fault) h = (h.0, (names, repertoire, read, h.1), h.2)
refused header bytes start names repertoire read (start_faults.Certificate fault) h = (names, repertoire, read, certificate_message fault (start names repertoire) h)
refused header bytes start names repertoire read (start_faults.No fault) h = (names, repertoire, read, h)
refused header bytes start names repertoire read start_faults.NoMemory h = tt

-- a repertoire that can't be read, once the names are, is why the service does not begin
pub unread : (header bytes : List ℕ) (start : Start) (names : KeysymNames) → names_of header ≡ Ok names
    → (fault : RepertoireFault) → RepertoireReturns (Err fault) (repertoire_of bytes) → BeginReturns header bytes start (Err (Refused (repertoire_refused fault)))
unread header bytes start names read (repertoire_faults.BadLine line) h = (names, read, h)
unread header bytes start names read (repertoire_faults.NotRising line) h = (names, read, h)
unread header bytes start names read repertoire_faults.TooMany h = (names, read, h)
unread header bytes start names read repertoire_faults.NoMemory h = tt
